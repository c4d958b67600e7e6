-- `entry::inner::one_by_one` meets its contract: the entries passed and those that are left are together what is asked.
use Rattle.words.proofs.Prelude.{◌≡◌, ◌≤◌, ◌&&◌, drop}
use Rattle.entry.specs.Change.{entries_formed, entries_of}
use Rattle.entry.proofs.inner.one_by_one.Given as goal

abbrev pub invariant-loop-i : goal.invariant-loop-i
invariant-loop-i l = (l.i ≤ l.n) × ((l.ok && entries_formed (drop l.i (entries_of l.n l.s))) ≡ entries_formed (entries_of l.n l.s))
