-- `snapshot::inner::keys_ascend` meets its contract: the entries passed and those that are left are together what is
-- asked.
use Rattle.words.proofs.Prelude.{arith, ◌≡◌, ◌+◌, ◌-◌}
use Rattle.snapshot.proofs.{Rising.rising-end, Rising.rising_turn}
use Rattle.snapshot.proofs.inner.keys_ascend.Goals as goal

pub loop-i-preserved : goal.loop-i-preserved
loop-i-preserved c =
    let e : c.loop-i.i - 1 + 1 ≡ c.loop-i.i = omega arith in
    let f : c.loop-i.i + 1 - 1 ≡ c.loop-i.i = omega arith in (
      omega arith,
      rw (f) (rw e at (rising_turn c.args.n c.args.s.now (c.loop-i.i - 1) c.loop-i.ok _ c.loop-i.invariant.1 (omega arith))),
    )

pub returns : goal.returns
returns c =
    rising-end c.args.n c.args.s.now (c.loop-i.i - 1) c.loop-i.ok _ c.loop-i.invariant.1 (omega arith)
