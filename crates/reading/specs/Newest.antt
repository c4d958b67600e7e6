-- Where the newest entry of a key stands, and what it says.
use Rattle.std.specs.Prelude.{ℕ, ◌<◌, ◌≡◌, List, Option as Optional, Some, None}
use Rattle.std.proofs.Math.Option.{Option, none, some}
use Rattle.entry.specs.Change.{Said, entries_of}
use Rattle.entry.specs.Inner.{change_at}
use Rattle.snapshot.specs.Folds.{last_of}

abbrev pub newest_says : List ℕ → Optional ℕ → Option Said
newest_says ws (Some i) = some (change_at ws i).said
newest_says ws None = none

abbrev pub NewestIn : ℕ → Optional ℕ → Type 0
NewestIn n (Some i) = i < n
NewestIn n None = Unit {0}

-- among the first n entries of some words
pub record NewestIs (k n : ℕ) (ws : List ℕ) (r : Optional ℕ) : Type 0 where
  pub says : newest_says ws r ≡ last_of k (entries_of n ws)
  pub inside : NewestIn n r
