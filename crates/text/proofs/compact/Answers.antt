-- `text::compact` meets its contract: `all`, or a number or none.
use Rattle.words.proofs.Prelude.{sym, ◌∙◌}
use Rattle.text.specs.Parse.{compact_of}
use Rattle.text.proofs.ParseLaws.{is_by}
use Rattle.text.proofs.compact.Goals as goal

pub returns-then-eq : goal.returns-then-eq
unfolding compact_of
returns-then-eq c =
    rw (is_by c.args.a.now _ c.as_slice.ensures c.eq.ensures c.if-eq.true)

pub returns-in_default : goal.returns-in_default
unfolding compact_of
returns-in_default c =
    rw (
      is_by c.args.a.now _ c.as_slice.ensures c.eq.ensures c.if-eq.false,
      sym c.number.ensures
          ∙ c.in_default.is,
    )

pub returns : goal.returns
unfolding compact_of
returns c =
    rw (
      is_by c.args.a.now _ c.as_slice.ensures c.eq.ensures c.if-eq.false,
      sym c.number.ensures
          ∙ c.in-Some.is,
    )
