-- `replay::answer::batch` meets its contract: a fresh log, or the old one.
use Rattle.entry.proofs.RefusalLaws.{passed_up}
use Rattle.model.specs.Log.{fresh_log}
use Rattle.state_cache.specs.State.{raw, index_of}
use Rattle.replay.specs.Answering.{answering}
use Rattle.replay.proofs.Telling.{starts, stays}
use Rattle.replay.proofs.answer.batch.Goals as goal

pub returns-in_err-fresh : goal.returns-in_err-fresh
unfolding answering
returns-in_err-fresh c =
    let made = c.fresh in
    rw (passed_up c.from_residual.result _ c.from_residual.ensures.1)
    (stays c.args.n _ _ (raw (index_of (fresh_log 0)) made.new.log made.new.snapshot)
    (raw c.args.index c.args.log.now c.args.snapshot.now) (rw c.in_err-fresh.was at made.ensures))

pub returns : goal.returns
unfolding answering
returns c =
    let made = c.fresh in
    starts c.args.n (raw _ made.new.log made.new.snapshot)
    (raw c.args.index c.args.log.now c.args.snapshot.now) (rw c.in_ok-fresh.was at made.ensures)
