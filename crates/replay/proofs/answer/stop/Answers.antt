-- `replay::answer::stop` meets its contract: the call's outcome, and the accepted index after it, are what is printed.
use Rattle.entry.proofs.RefusalLaws.{passed_up}
use Rattle.words.proofs.Prelude.{ap}
use Rattle.state_cache.specs.{State.raw, Run.index_said}
use Rattle.replay.specs.Answering.{stopped_by, answering}
use Rattle.replay.proofs.Telling.{stops}
use Rattle.replay.proofs.answer.stop.Goals as goal

pub returns-in_err-next : goal.returns-in_err-next
unfolding answering
returns-in_err-next c =
    rw (passed_up c.from_residual.result _ c.from_residual.ensures.1)
    (ap stopped_by (rw (c.in_err-next.was, c.stop_sign.ensures) at c.append_stopsign.ensures))

pub returns : goal.returns
unfolding answering
returns c =
    let last = c.get_accepted_idx-last in
    stops _ _ (index_said last.result) (raw _ c.args.log.now c.args.snapshot.now) _
    (rw (c.in_ok-next.was, c.stop_sign.ensures) at c.append_stopsign.ensures) last.ensures c.accepted_line.ensures
