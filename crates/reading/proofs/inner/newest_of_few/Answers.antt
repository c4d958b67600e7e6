-- `reading::inner::newest_of_few` meets its contract: the newest of all entries is that of those not yet looked at.
use Rattle.words.proofs.Prelude.{arith, ◌-◌}
use Rattle.reading.proofs.Looking.{newest_none, newest_found, newest_back}
use Rattle.reading.proofs.inner.newest_of_few.Goals as goal

pub loop-i-preserved : goal.loop-i-preserved
loop-i-preserved c =
    newest_back c.args.n c.args.log.now c.args.key c.loop-i.i c.loop-i.invariant (c.loop-i.i - 1) (omega arith)
    c.if-k-key.false

pub returns-then-k-key : goal.returns-then-k-key
returns-then-k-key c =
    newest_found c.args.n c.args.log.now c.args.key c.loop-i.i c.loop-i.invariant (c.loop-i.i - 1) (omega arith)
    c.if-k-key.true

pub returns : goal.returns
returns c = newest_none c.args.n c.args.log.now c.args.key c.loop-i.i c.loop-i.invariant (omega arith)
