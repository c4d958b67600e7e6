-- `reading::inner::newest_at` meets its contract: the newest of all entries is that of those not yet looked at.
use Rattle.words.proofs.Prelude.{arith, ◌-◌}
use Rattle.reading.proofs.Looking.{Left, newest_few, newest_found, newest_back}
use Rattle.reading.proofs.inner.newest_at.Goals as goal
use Rattle.reading.proofs.inner.newest_at.Goals.{Else-ka-key, Else-kb-key, Else-kc-key}

-- so many of the last entries were not it
one : (e : Else-ka-key) → Left e.args.n e.args.log.now e.args.key (e.loop-i.i - 1)
one e =
    newest_back e.args.n e.args.log.now e.args.key e.loop-i.i e.loop-i.invariant (e.loop-i.i - 1) (omega arith)
    e.if-ka-key.false

two : (e : Else-kb-key) → Left e.args.n e.args.log.now e.args.key (e.loop-i.i - 2)
two e =
    let l = newest_back e.args.n e.args.log.now e.args.key e.loop-i.i e.loop-i.invariant (e.loop-i.i - 1) (omega arith)
    e.if-ka-key.false in
    newest_back e.args.n e.args.log.now e.args.key (e.loop-i.i - 1) l (e.loop-i.i - 2) (omega arith) e.if-kb-key.false

three : (e : Else-kc-key) → Left e.args.n e.args.log.now e.args.key (e.loop-i.i - 3)
three e =
    let l = newest_back e.args.n e.args.log.now e.args.key e.loop-i.i e.loop-i.invariant (e.loop-i.i - 1) (omega arith)
    e.if-ka-key.false in
    let k = newest_back e.args.n e.args.log.now e.args.key (e.loop-i.i - 1) l (e.loop-i.i - 2) (omega arith)
    e.if-kb-key.false in
    newest_back e.args.n e.args.log.now e.args.key (e.loop-i.i - 2) k (e.loop-i.i - 3) (omega arith) e.if-kc-key.false

pub loop-i-preserved : goal.loop-i-preserved
loop-i-preserved c =
    newest_back c.args.n c.args.log.now c.args.key (c.loop-i.i - 3) (three (goal.at.loop-i-preserved c).Else-kc-key)
    (c.loop-i.i - 4) (omega arith) c.if-kd-key.false

pub returns-then-i-lt4 : goal.returns-then-i-lt4
returns-then-i-lt4 c =
    newest_few c.args.n c.args.log.now c.args.key c.loop-i.i c.loop-i.invariant _ c.newest_of_few.ensures

pub returns-then-ka-key : goal.returns-then-ka-key
returns-then-ka-key c =
    newest_found c.args.n c.args.log.now c.args.key c.loop-i.i c.loop-i.invariant (c.loop-i.i - 1)
    (omega arith) c.if-ka-key.true

pub returns-then-kb-key : goal.returns-then-kb-key
returns-then-kb-key c =
    newest_found c.args.n c.args.log.now c.args.key (c.loop-i.i - 1)
    (one (goal.at.returns-then-kb-key c).Else-ka-key) (c.loop-i.i - 2) (omega arith) c.if-kb-key.true

pub returns-then-kc-key : goal.returns-then-kc-key
returns-then-kc-key c =
    newest_found c.args.n c.args.log.now c.args.key (c.loop-i.i - 2)
    (two (goal.at.returns-then-kc-key c).Else-kb-key) (c.loop-i.i - 3) (omega arith) c.if-kc-key.true

pub returns-then-kd-key : goal.returns-then-kd-key
returns-then-kd-key c =
    newest_found c.args.n c.args.log.now c.args.key (c.loop-i.i - 3)
    (three (goal.at.returns-then-kd-key c).Else-kc-key) (c.loop-i.i - 4) (omega arith) c.if-kd-key.true
