-- `replay::answer::read` meets its contract: what the reply says is printed.
use Rattle.entry.proofs.RefusalLaws.{passed_up}
use Rattle.model.specs.Read.{included, excluded}
use Rattle.state_cache.specs.State.{raw}
use Rattle.replay.specs.Answering.{answering}
use Rattle.replay.proofs.Telling.{reads}
use Rattle.replay.proofs.answer.read.Goals as goal

pub returns-in_err-run : goal.returns-in_err-run
unfolding answering
returns-in_err-run c =
    rw (passed_up c.from_residual.result _ c.from_residual.ensures.1)
    (reads (included c.args.from) (excluded c.args.to) _ (raw c.args.index c.args.log.now c.args.snapshot.now)
    (rw c.in_err-run.was at c.read_reply.ensures))

pub returns : goal.returns
unfolding answering
returns c =
    reads (included c.args.from) (excluded c.args.to) _ (raw c.args.index c.args.log.now c.args.snapshot.now)
    (rw c.in_ok-run.was at c.read_reply.ensures)
