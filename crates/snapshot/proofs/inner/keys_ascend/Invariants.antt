-- `snapshot::inner::keys_ascend` meets its contract: the entries passed and those that are left are together what is
-- asked.
use Rattle.words.proofs.Prelude.{◌≡◌, ◌-◌, ◌≤◌, ◌&&◌, drop}
use Rattle.entry.specs.Change.{entries_of}
use Rattle.snapshot.specs.Folds.{rising}
use Rattle.snapshot.proofs.inner.keys_ascend.Given as goal

abbrev pub invariant-loop-i : goal.invariant-loop-i
invariant-loop-i l = (1 ≤ l.i) × ((l.ok && rising (drop (l.i - 1) (entries_of l.n l.s))) ≡ rising (entries_of l.n l.s))
