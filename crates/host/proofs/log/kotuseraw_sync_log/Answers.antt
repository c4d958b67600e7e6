use Rattle.words.proofs.Prelude.{ap, ◌∙◌}
use Rattle.std.specs.Prelude.{Option}
use Rattle.std.specs.Bool.{then_some}
use Rattle.model.specs.Calls.{sync}
use Rattle.state_cache.specs.{State.raw, Run.run, Run.index_at}
use Rattle.sync.specs.{Requests.part_of, Requests.lent_whole, declared.LogSync.LogSync}
use Rattle.host.proofs.{Carry.carry}
use Rattle.host.specs.Plain.{a_number}
use Rattle.host.proofs.log.kotuseraw_sync_log.Goals as goal

pub returns : goal.returns
returns c =
    carry a_number index_at _ _ c.reply.ensures
    (c.sync_log.ensures
    ∙ ap (λ (p : Option LogSync). run (sync c.args.accepted_round c.args.decided_idx.0 (part_of p c.args.incoming.now
    c.args.suffix.now)) (lent_whole p c.args.incoming.now c.args.suffix.now) (raw c.args.index c.args.log.now
    c.args.snapshot.now)) (c.then_some.ensures ∙ ap (then_some c.args.held) c.sync_of-part.ensures))
