-- `reading::inner::newest_of_few` meets its contract: the newest of all entries is that of those not yet looked at.
use Rattle.reading.proofs.Looking.{Left}
use Rattle.reading.proofs.inner.newest_of_few.Given as goal

abbrev pub invariant-loop-i : goal.invariant-loop-i
invariant-loop-i l = Left l.n l.log l.key l.i
