-- `text::inner::number` meets its contract: the digits that are left make of the number already read what the whole
-- makes of none.
use Rattle.words.proofs.Prelude.{arith, ◌≡◌, sym, ap, ◌∙◌, ℕ, ◌+◌, ◌-◌, ◌*◌, ◌≤◌, ◌<◌, true, eqb-true, eqb-false, length, drop}
use Rattle.words.proofs.Prelude.{get_or}
use Rattle.text.specs.Number.{is_digit}
use Rattle.text.proofs.ParseLaws.{number_empty, number_zero, number_one, number_more, whole_step}
use Rattle.text.proofs.ParseLaws.{whole, whole_bad, whole_over, whole_end}
use Prim.Native.Nat.{◌^◌}
use Rattle.text.proofs.inner.number.Goals as goal
use Rattle.text.proofs.inner.number.Goals.{else-s-gt1-via-then-s-gt1+else-s-eq48, else-s-gt1-via-else-s-gt1}

-- a sum that does not fit, and with what is added to it
over : (n k : ℕ) → (n < 2 ^ 64 → ⊥) → 2 ^ 64 ≤ n + k
over n k h = omega (arith, h)

pub returns-then-is_empty : goal.returns-then-is_empty
returns-then-is_empty c =
    sym (number_empty c.args.s.now (eqb-true _ _ (sym c.is_empty.ensures ∙ c.if-is_empty.true)))

pub loop-b-init : goal.loop-b-init
loop-b-init c =
    let s = c.args.s.now in (
      omega arith,
      elim c.else-s-gt1.branch [
        | else-s-gt1-via-then-s-gt1+else-s-eq48 w ↦ number_more s w.if-s-gt1.true w.if-s-eq48.false
        | else-s-gt1-via-else-s-gt1 w ↦ number_one s (omega (arith, w.if-s-gt1.false, eqb-false (length s) 0 (sym c.is_empty.ensures ∙ c.if-is_empty.false)))
      ],
    )

pub loop-b-preserved : goal.loop-b-preserved
loop-b-preserved c =
    let s = c.args.s.now in
    let i = c.loop-b.b-index in
    let d : is_digit (get_or s i 0) ≡ true = sym c.is_ascii_digit.ensures.value ∙ c.if-not-is_ascii_digit.false in
    let n : c.in_ok-n.n ≡ c.loop-b.n * 10 + (get_or s i 0 - 48) =
    omega (arith, c.in_ok-n.ensures, c.in_ok-checked_mul.ensures, c.from.ensures) in (
      omega (arith, c.in_ok-n.ensures, c.from.ensures),
      ap (λ (m : ℕ). whole m (drop (i + 1) s)) n ∙ sym (whole_step c.loop-b.n s i (omega arith) d)
          ∙ c.loop-b.invariant.1,
    )

pub returns : goal.returns
returns c =
    sym (whole_end c.loop-b.n c.args.s.now c.loop-b.b-index (omega arith) c.loop-b.invariant.0) ∙ c.loop-b.invariant.1

pub returns-then-not-is_ascii_digit : goal.returns-then-not-is_ascii_digit
returns-then-not-is_ascii_digit c =
    sym (whole_bad c.loop-b.n c.args.s.now c.loop-b.b-index (omega arith)
    (sym c.is_ascii_digit.ensures.value ∙ c.if-not-is_ascii_digit.true)) ∙ c.loop-b.invariant.1

pub returns-then-s-eq48 : goal.returns-then-s-eq48
returns-then-s-eq48 c =
    sym (number_zero c.args.s.now c.if-s-gt1.true c.if-s-eq48.true)

pub returns-in_err-checked_mul : goal.returns-in_err-checked_mul
returns-in_err-checked_mul c =
    c.from_residual.ensures ∙ sym (whole_over c.loop-b.n c.args.s.now c.loop-b.b-index (omega arith)
    (over (c.loop-b.n * 10) _ c.in_err-checked_mul.ensures)) ∙ c.loop-b.invariant.1

pub returns-in_err-n : goal.returns-in_err-n
returns-in_err-n c =
    c.from_residual-in_err-n.ensures ∙ sym (whole_over c.loop-b.n c.args.s.now c.loop-b.b-index (omega arith)
    (omega (arith, over _ 0 c.in_err-n.ensures, c.in_ok-checked_mul.ensures, c.from.ensures))) ∙ c.loop-b.invariant.1
