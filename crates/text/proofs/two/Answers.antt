-- `text::two` meets its contract.
use Rattle.words.proofs.Prelude.{sym, ◌∙◌}
use Rattle.text.specs.Parse.{paired_of}
use Rattle.text.proofs.ParseLaws.{is_by}
use Rattle.text.proofs.two.Goals as goal

pub returns-in_default : goal.returns-in_default
returns-in_default c =
    rw (sym c.number.ensures ∙ c.in_default.is)

pub returns-in_default-number : goal.returns-in_default-number
returns-in_default-number c =
    rw (
      sym c.number.ensures ∙ c.in-Some.is,
      sym c.number-2.ensures
          ∙ c.in_default-number.is,
    )

pub returns-then-eq : goal.returns-then-eq
unfolding paired_of
returns-then-eq c =
    rw (
      sym c.number.ensures ∙ c.in-Some.is,
      sym c.number-2.ensures
          ∙ c.in-Some-number.is,
      is_by c.args.w.now _ c.as_slice.ensures c.eq.ensures c.if-eq.true,
    )

pub returns-then-eq-2 : goal.returns-then-eq-2
unfolding paired_of
returns-then-eq-2 c =
    rw (sym c.number.ensures ∙ c.in-Some.is, sym c.number-2.ensures ∙ c.in-Some-number.is, is_by c.args.w.now _ c.as_slice.ensures c.eq.ensures c.if-eq.false, is_by c.args.w.now _ c.as_slice-2.ensures c.eq-2.ensures c.if-eq-2.true)

pub returns : goal.returns
unfolding paired_of
returns c =
    rw (sym c.number.ensures ∙ c.in-Some.is, sym c.number-2.ensures ∙ c.in-Some-number.is, is_by c.args.w.now _ c.as_slice.ensures c.eq.ensures c.if-eq.false, is_by c.args.w.now _ c.as_slice-2.ensures c.eq-2.ensures c.if-eq-2.false)
