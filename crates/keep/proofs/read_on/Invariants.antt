-- `keep::read_on` meets its contract: the bytes read so far lie within the buffer, and each turn leaves fewer.
use Rattle.words.proofs.Prelude.{◌-◌, ◌≤◌, length}
use Rattle.keep.proofs.read_on.Given as goal

abbrev pub invariant-loop-done : goal.invariant-loop-done
invariant-loop-done g l = l.done ≤ length l.buf

abbrev pub decreases-loop-done : goal.decreases-loop-done
decreases-loop-done g l = length l.initial.buf - l.done
