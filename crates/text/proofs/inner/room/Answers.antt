-- `text::inner::room` meets its contract.
use Rattle.words.proofs.Prelude.{arith, sym, le-leb, lt-leb, length-take-le}
use Rattle.text.proofs.inner.room.Goals as goal

pub returns-then-used-last : goal.returns-then-used-last
returns-then-used-last c =
    simp (le-leb _ _ c.if-used-last.true)

pub slice_bounds-write_all-end : goal.slice_bounds-write_all-end
slice_bounds-write_all-end c =
    sym (length-take-le _ _ (omega arith))

pub returns : goal.returns
returns c =
    simp (lt-leb _ _ c.if-used-last.false)
