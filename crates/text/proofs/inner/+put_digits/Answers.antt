-- `text::inner::put_digits` meets its contract: what is put before the last digit are the tenth's, or nothing.
use Rattle.words.proofs.Prelude.{arith, ◌≡◌, sym, ◌∙◌, ap, ℕ, ◌+◌, ◌/◌, ◌<◌, List, [], ◌∷◌, ◌++◌, append_assoc, append-nil}
use Prim.Native.Nat.{◌%◌}
use Rattle.words.proofs.Prelude.{length, take}
use Rattle.std.proofs.Math.ListN.{set}
use Rattle.std.proofs.lemmas.List.{take_more_set}
use Rattle.text.specs.Answers.{decimal_of}
use Rattle.text.proofs.{AnswerLaws.decimal_one, AnswerLaws.decimal_more}
use Rattle.text.proofs.{AnswerLaws.decimal_one_length, AnswerLaws.decimal_more_length}
use Rattle.text.proofs.inner.+put_digits.Goals as goal
use Rattle.text.proofs.inner.+put_digits.Goals.{then-n-ge10, else-n-ge10}

-- a digit after others
one_more : (before digits all out : List ℕ) (last d : ℕ) → last < length out → take last out ≡ before ++ digits
    → all ≡ digits ++ d ∷ [] → take (last + 1) (set out last d) ≡ before ++ all
one_more before digits all out last d h e f =
    take_more_set out last d h ∙ ap (λ (t : List ℕ). t ++ d ∷ []) e ∙ append_assoc before digits (d ∷ []) ∙ ap (λ t. before ++ t) (sym f)

pub put_digits-last-requires : goal.put_digits-last-requires
put_digits-last-requires t c =
    let n = c.args.n in
    let more = decimal_more_length n c.if-n-ge10.true c.ranges.n.fits in
    (omega arith, omega arith)

pub bounds-out-last : goal.bounds-out-last
bounds-out-last t c =
    let n = c.args.n in
    elim c.if-n-ge10.branch [
      | then-n-ge10 w ↦
          let more = decimal_more_length n w.if-n-ge10.true c.ranges.n.fits in
          omega arith
      | else-n-ge10 w ↦
          let one = decimal_one_length n w.if-n-ge10.false in
          omega arith
    ]

pub returns-clause-value : goal.returns-clause-value
returns-clause-value t c =
    let n = c.args.n in
    elim c.if-n-ge10.branch [
      | then-n-ge10 w ↦
          let more = decimal_more_length n w.if-n-ge10.true c.ranges.n.fits in
          omega arith
      | else-n-ge10 w ↦
          let one = decimal_one_length n w.if-n-ge10.false in
          omega arith
    ]

pub returns-clause-out_after : goal.returns-clause-out_after
returns-clause-out_after t c =
    let n = c.args.n in
    let before = take c.args.at c.args.out.now in
    let d = 48 + n % 10 in
    elim c.if-n-ge10.branch [
      | then-n-ge10 w ↦
          let more = decimal_more_length n w.if-n-ge10.true c.ranges.n.fits in
          one_more before (decimal_of (n / 10)) (decimal_of n) c.if-n-ge10.out c.if-n-ge10.last d (omega arith)
          (rw (w.last-is, w.out-is) w.put_digits-last.ensures.out_after)
          (decimal_more n w.if-n-ge10.true c.ranges.n.fits)
      | else-n-ge10 w ↦
          let one = decimal_one_length n w.if-n-ge10.false in
          one_more before [] (decimal_of n) c.if-n-ge10.out c.if-n-ge10.last d (omega arith)
          (rw (w.last-is, w.out-is) (simp append-nil))
          (decimal_one n w.if-n-ge10.false)
    ]
