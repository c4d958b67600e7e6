-- `records::inner::put_big` meets its contract: at each turn, what is left to put gives what is asked.
use Rattle.words.proofs.Prelude.{arith, sym, ◌∙◌}
use Rattle.records.proofs.Loops.{put_turn, put_done}
use Rattle.records.proofs.inner.put_big.Goals as goal

pub loop-j-preserved : goal.loop-j-preserved
loop-j-preserved c =
    let l = c.loop-j in
    put_turn l.s c.args.at l.j l.m (omega arith) (omega arith) ∙ l.invariant

pub returns : goal.returns
returns c =
    let l = c.loop-j in
    sym (put_done l.s c.args.at l.j l.m (omega arith)) ∙ l.invariant
