use Rattle.words.proofs.Prelude.{ap, ◌∙◌, true, [], ◌∷◌}
use Rattle.entry.specs.Change.{Said}
use Rattle.model.specs.Calls.{append}
use Rattle.state_cache.specs.{State.raw, Run.run}
use Rattle.internal_storage.specs.Replies.{flushed_is}
use Rattle.host.proofs.{Carry.carry_left}
use Rattle.host.specs.Plain.{maybe_flushed}
use Rattle.host.proofs.inner.kotuseraw_inner_append_entry_with_batching.Goals as goal

pub returns : goal.returns
returns c =
    carry_left maybe_flushed flushed_is _ c.said-said.ensures
    (c.append_entry_with_batching.ensures
    ∙ ap (λ (y : Said). run (append (record { key = c.args.key; said = y } ∷ [])) true (raw c.args.index c.args.log.now
    c.args.snapshot.now)) c.entry_said-entry.ensures)
