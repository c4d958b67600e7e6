-- Module 7: what a follower lacks.
use Rattle.std.specs.Prelude.{ℕ, Bool, ◌&&◌, List, ltb, leb, if◌then◌else◌}
use Rattle.std.proofs.Math.Option.{Option, none, some}
use Rattle.entry.specs.Change.{Change}
use Rattle.entry.specs.Guards.{Guard}
use Rattle.snapshot.specs.Folds.{fold}
use Rattle.model.specs.Numbers.{log_decided}
use Rattle.model.specs.Log.{Log, numbers_of, or_empty, folded_to}
use Rattle.model.specs.Read.{between}
use Rattle.model.specs.Compact.{onto_guards}

-- no snapshot, a complete one, or a delta: of a diff, and of a sync
pub data Given : Type 0 where
  plain : Given
  complete delta : List Change → Given

abbrev pub snapshot_in : Given → Option (List Change)
snapshot_in plain = none
snapshot_in (complete c) = some c
snapshot_in (delta d) = some d

-- "from ≤ compacted: complete to log-decided if compacted is below that, otherwise the held snapshot, or none if none
-- is held; else the delta of from to log-decided, empty if from is past it"
unfoldable pub diff_of : ℕ → Log → Given
diff_of from s =
    let last : ℕ = log_decided (numbers_of s) in
    if leb from s.run.compacted
    then (if ltb s.run.compacted last then complete (folded_to last s.run)
    else elim s.run.held [ none ↦ plain | some h ↦ complete h ])
    else delta (fold (between from last s.run))

-- whether it is complete and folds: "a complete diff with nothing to fold" replies the held snapshot, or none
unfoldable pub diff_folds : ℕ → Log → Bool
diff_folds from s = leb from s.run.compacted && ltb s.run.compacted (log_decided (numbers_of s))

-- "create_diff_snapshot: 8", of what is folded for it, and 16 for a complete one "that would fold"
unfoldable pub diff_guards : ℕ → Log → List Guard
diff_guards from s = onto_guards (diff_folds from s) s (or_empty (snapshot_in (diff_of from s)))
