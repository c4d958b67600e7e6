-- What makes a hole and what mends it.
use Rattle.words.proofs.Prelude.{◌≡◌, refl, ℕ, true, false, ltb, Option, none, List}
use mathlib.Core.Bool.{and-false}
use Rattle.entry.specs.{Change.Change, declared.StopSign.StopSign, declared.Compaction.Compaction}
use Rattle.entry.specs.declared.Compaction.TheVariants.{Trim}
use Rattle.model.specs.{Log.Log, Log.hole, Backend.Lent, Backend.Midst, Backend.trim, Backend.step}
use Rattle.model.specs.Compact.{passes_start, compacted_to}
use Rattle.model.specs.{Diff.complete, Sync.run_then}
use Rattle.model.proofs.Keeps.{part}

-- "a trim that passes compacted drops the held snapshot"; a compaction that does not changes nothing
pub trim_drops : (upto : Option ℕ) (s : Log) → passes_start upto s ≡ true → (compacted_to Trim upto s).run.held ≡ none
unfolding compacted_to
trim_drops upto s e = rw e

pub compact_rests : (what : Compaction) (upto : Option ℕ) (s : Log) → passes_start upto s ≡ false
    → compacted_to what upto s ≡ s
unfolding compacted_to
compact_rests what upto s e = rw e

-- "an operation list drops only what it names": its trim keeps a held snapshot
pub list_trim_keeps : (l : Lent) (i : ℕ) (m : Midst) → (step l (trim i) m).log.run.held ≡ m.log.run.held
unfolding step
list_trim_keeps l i m = refl

-- a complete sync leaves no hole, one with no keys neither
pub complete_mends : (i : ℕ) (c es : List Change) (z : Option StopSign) (s : Log)
    → hole (run_then (part i (complete c) es z) s) ≡ false
unfolding run_then
complete_mends i c es z s = and-false (ltb 0 i)
