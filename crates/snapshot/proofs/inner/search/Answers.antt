-- `snapshot::inner::search` meets its contract: the spot stays from low to high.
use Rattle.words.proofs.Prelude.{arith}
use Rattle.snapshot.proofs.Searching.{search_all, search_end, search_at, search_above, search_below}
use Rattle.snapshot.proofs.{Halving.halved}
use Rattle.snapshot.proofs.inner.search.Goals as goal

pub loop-high-init : goal.loop-high-init
loop-high-init c =
    (omega arith, search_all _ _ _)

pub loop-high-smaller-then-k-key : goal.loop-high-smaller-then-k-key
loop-high-smaller-then-k-key c =
    halved _ _ _ (omega arith) (omega arith) (omega arith)

pub loop-high-preserved-then-k-key : goal.loop-high-preserved-then-k-key
loop-high-preserved-then-k-key c = (
  c.loop-high.invariant.0,
  search_above c.args.n c.args.s.now c.args.key c.requires.rises _ (omega arith) _ _ c.loop-high.invariant.1
      c.if-k-key.true,
)

pub loop-high-smaller : goal.loop-high-smaller
loop-high-smaller c =
    halved _ _ _ (omega arith) (omega arith) (omega arith)

pub loop-high-preserved : goal.loop-high-preserved
loop-high-preserved c = (
  omega arith,
  search_below c.args.n c.args.s.now c.args.key c.requires.rises _ (omega arith) _ _ c.loop-high.invariant.1
      (omega arith),
)

pub returns-then-high-low : goal.returns-then-high-low
returns-then-high-low c =
    search_end _ _ _ _ _ c.loop-high.invariant.1 c.if-high-low.true

pub returns-then-k-key-2 : goal.returns-then-k-key-2
returns-then-k-key-2 c =
    search_at c.args.n c.args.s.now c.args.key c.requires.rises _ (omega arith) c.if-k-key-2.true
