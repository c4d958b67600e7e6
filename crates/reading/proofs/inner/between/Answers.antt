-- `reading::inner::between` meets its contract: one test, and the differences where it holds.
use Rattle.words.proofs.Prelude.{true, false}
use Rattle.reading.proofs.{Showing.span_by}
use Rattle.reading.proofs.inner.between.Goals as goal

pub returns-then-not-held : goal.returns-then-not-held
returns-then-not-held c =
    span_by _ _ _ _ c.end-last.ensures false (c.if-not-held.true)

pub returns : goal.returns
returns c =
    span_by _ _ _ _ c.end-last.ensures true (c.if-not-held.false)
