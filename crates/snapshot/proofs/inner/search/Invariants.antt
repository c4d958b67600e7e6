-- `snapshot::inner::search` meets its contract: the spot stays from low to high.
use Rattle.words.proofs.Prelude.{◌-◌, ◌≤◌}
use Rattle.entry.specs.Change.{entries_of}
use Rattle.snapshot.proofs.Searching.{Within}
use Rattle.snapshot.proofs.{Halving.halvings}
use Rattle.snapshot.proofs.inner.search.Given as goal

abbrev pub invariant-loop-high : goal.invariant-loop-high
invariant-loop-high l = (l.high ≤ l.n) × Within (entries_of l.n l.s) l.key l.low l.high

abbrev pub decreases-loop-high : goal.decreases-loop-high
decreases-loop-high l = halvings l.n (l.high - l.low)
