-- `text::bare` meets its contract.
use Rattle.words.proofs.Prelude.{sym, ◌∙◌}
use Rattle.text.specs.Parse.{bare_of}
use Rattle.text.proofs.ParseLaws.{is_by}
use Rattle.text.proofs.bare.Goals as goal

pub returns-then-eq : goal.returns-then-eq
unfolding bare_of
returns-then-eq c =
    rw (is_by c.args.w.now _ c.as_slice.ensures c.eq.ensures c.if-eq.true)

pub returns : goal.returns
unfolding bare_of
returns c =
    rw (is_by c.args.w.now _ c.as_slice.ensures c.eq.ensures c.if-eq.false)
