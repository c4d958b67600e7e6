-- `snapshot::inner::put` meets its contract: an insert is a splice at the spot that the search found.
use Rattle.words.proofs.Prelude.{arith, sym, ◌∙◌}
use Rattle.snapshot.proofs.{Searching.spot_inside, Putting.before_inside, Putting.put_at, Putting.put_before}
use Rattle.snapshot.proofs.{Putting.put_full}
use Rattle.snapshot.proofs.inner.put.Goals as goal

pub overflow_mul-i : goal.overflow_mul-i
overflow_mul-i c =
    omega (
      arith,
      spot_inside c.args.n
          c.args.s.now _ _ (sym c.in-Ok.is ∙ c.search.ensures),
      c.requires.0.laid.fits,
    )

pub splice-requires-clause-cut_bound : goal.splice-requires-clause-cut_bound
splice-requires-clause-cut_bound c =
    omega (arith, spot_inside c.args.n c.args.s.now _ _ (sym c.in-Ok.is ∙ c.search.ensures))

pub splice-requires-clause-insert_in_bounds : goal.splice-requires-clause-insert_in_bounds
splice-requires-clause-insert_in_bounds c =
    omega (arith, spot_inside c.args.n c.args.s.now _ _ (sym c.in-Ok.is ∙ c.search.ensures))

pub returns-then-s-used-lt-WIDTH : goal.returns-then-s-used-lt-WIDTH
returns-then-s-used-lt-WIDTH c =
    put_full c.args.s.now c.args.n c.args.item.now c.requires.0 c.requires.1 _
    (sym c.in-Err.is ∙ c.search.ensures) _ c.if-s-used-lt-WIDTH.true

pub overflow_mul-i-in-Err : goal.overflow_mul-i-in-Err
overflow_mul-i-in-Err c =
    omega (
      arith,
      before_inside c.args.s.now c.args.n c.args.item.now c.requires.0
          c.requires.1 _ (sym c.in-Err.is ∙ c.search.ensures),
      c.requires.0.laid.fits,
    )

pub splice-requires-in-Err-clause-cut_bound : goal.splice-requires-in-Err-clause-cut_bound
splice-requires-in-Err-clause-cut_bound c =
    omega (
      arith,
      before_inside c.args.s.now c.args.n c.args.item.now c.requires.0
          c.requires.1 _ (sym c.in-Err.is ∙ c.search.ensures),
    )

pub returns-in-Ok : goal.returns-in-Ok
returns-in-Ok c =
    rw c.splice.ensures
    (put_at c.args.s.now c.args.n c.args.item.now c.requires.0
    c.requires.1 _ (sym c.in-Ok.is ∙ c.search.ensures))

pub returns-else-s-used-lt-WIDTH : goal.returns-else-s-used-lt-WIDTH
returns-else-s-used-lt-WIDTH c =
    rw c.splice-in-Err.ensures
    (put_before c.args.s.now c.args.n c.args.item.now c.requires.0
    c.requires.1 _ (sym c.in-Err.is ∙ c.search.ensures)
    c.if-s-used-lt-WIDTH.false)
