use Rattle.words.proofs.Prelude.{ap, ◌∙◌, true, Option}
use Rattle.entry.specs.declared.StopSign.{StopSign}
use Rattle.model.specs.Calls.{set_stop}
use Rattle.state_cache.specs.{State.raw, Run.run}
use Rattle.host.proofs.{Asking.asked_sign}
use Rattle.state_cache.specs.Run.{index_at}
use Rattle.host.proofs.{Carry.carry_left}
use Rattle.host.specs.Plain.{a_number}
use Rattle.host.proofs.inner.kotuseraw_inner_set_stopsign.Goals as goal

pub returns : goal.returns
returns c =
    carry_left a_number index_at _ c.said-said.ensures (c.set_stopsign.ensures
    ∙ ap (λ (o : Option StopSign). run (set_stop o) true (raw c.args.index c.args.log.now c.args.snapshot.now))
    (asked_sign c.args.held c.args.ss c.then_some.ensures))
