-- How far a compaction goes: up to an index, or over all that is log-decided, which is none.
use Rattle.std.specs.Prelude.{ℕ, Option, Some, None}
use Rattle.std.proofs.Math.Option.{Option as Maybe, none, some}
use Rattle.entry.specs.declared.LogIndex.{LogIndex}

abbrev pub upto_of : Option LogIndex → Maybe ℕ
upto_of None = none
upto_of (Some i) = some i.0
