-- The flag byte and its masks.
use Rattle.words.proofs.Prelude.{arith, ◌≡◌, ap, ◌∙◌, ℕ, zero, suc, ◌*◌, ◌/◌, ◌<◌, not, eqb}
use Rattle.words.proofs.Prelude.{ne_eqb}
use Prim.Native.Nat.{◌%◌}
use native.Mathlib.Nat.{zero-mul, one-mul}
use lib.Bits.{bit_and, and_high}
use Rattle.image.specs.Layout.{bit_held}

-- testing: one bit by `and_high`
one_bit : (x m : ℕ) → x < 2 → 0 < m → not (eqb (x * m) 0) ≡ eqb x 1
one_bit zero m h k = ap (λ (n : ℕ). not (eqb n 0)) (zero-mul m)
one_bit (suc zero) m h k = ap not (ne_eqb (1 * m) 0 (λ e. let z : 1 * m ≡ m = one-mul m in omega arith))
one_bit (suc (suc x)) m h k = absurd (omega arith)

pub bit_1 : (v : ℕ) → not (eqb (bit_and v 2) 0) ≡ bit_held 1 v
bit_1 v = ap (λ (n : ℕ). not (eqb n 0)) (and_high v 1 1) ∙ one_bit (v / 2 % 2) 2 (omega arith) (omega arith)

pub bit_2 : (v : ℕ) → not (eqb (bit_and v 4) 0) ≡ bit_held 2 v
bit_2 v = ap (λ (n : ℕ). not (eqb n 0)) (and_high v 1 2) ∙ one_bit (v / 4 % 2) 4 (omega arith) (omega arith)
