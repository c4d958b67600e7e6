-- `replay::answer::find` meets its contract: the lookup's answer is what is printed.
use Rattle.entry.proofs.RefusalLaws.{passed_up}
use Rattle.words.proofs.Prelude.{ap, ◌∙◌}
use Rattle.model.specs.Calls.{lookup}
use Rattle.state_cache.specs.State.{raw}
use Rattle.replay.specs.Answering.{printout, found_text, answering}
use Rattle.replay.proofs.Telling.{asks}
use Rattle.replay.proofs.answer.find.Goals as goal

pub returns-in_err-known : goal.returns-in_err-known
unfolding answering
returns-in_err-known c =
    rw (passed_up c.from_residual.result _ c.from_residual.ensures.1)
    (asks (lookup c.args.k) found_text _ (raw c.args.index c.args.log.now c.args.snapshot.now)
    (rw c.in_err-known.was at c.lookup.ensures))

pub returns : goal.returns
unfolding answering
returns c =
    let x = raw c.args.index c.args.log.now c.args.snapshot.now in
    ap (λ bs. printout bs x) c.found_line.ensures
    ∙ asks (lookup c.args.k) found_text _ x (rw c.in_ok-known.was at c.lookup.ensures)
