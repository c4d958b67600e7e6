-- `words::copy_in` meets its contract: after i turns the first i words of src stand from `at` on.
use Rattle.words.proofs.Prelude.{◌≡◌, length}
use lib.Seq.{paste}
use Rattle.words.proofs.copy_in.Given as goal

abbrev pub invariant-loop-i : goal.invariant-loop-i
invariant-loop-i l = (l.s ≡ paste l.initial.s l.at l.src l.i) × (length l.s ≡ length l.initial.s)
