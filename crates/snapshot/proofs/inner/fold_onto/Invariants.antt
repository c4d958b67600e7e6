-- `snapshot::inner::fold_onto` meets its contract: the words hold the entries put so far.
use Rattle.words.proofs.Prelude.{◌≤◌, length, take}
use Rattle.entry.specs.Change.{entries_of}
use Rattle.snapshot.specs.Folds.{fold_onto}
use Rattle.snapshot.proofs.Putting.{Sofar}
use Rattle.snapshot.proofs.inner.fold_onto.Given as goal

abbrev pub invariant-loop-i : goal.invariant-loop-i
invariant-loop-i l =
    (l.i ≤ l.n) × Sofar (length l.initial.s) (fold_onto (entries_of l.kept l.initial.s) (take l.i (entries_of l.n l.entries))) l.s l.keys
