-- `internal_storage::append::append_entry_with_batching` meets its contract: refusal 12, or what the call on a
-- well-formed log comes to.
use Rattle.words.proofs.Prelude.{sym, ◌∙◌, true, [], ◌∷◌}
use Rattle.entry.specs.Change.{said_is}
use Rattle.entry.proofs.RefusalLaws.{passed_up}
use Rattle.model.specs.Calls.{append}
use Rattle.state_cache.specs.State.{raw}
use Rattle.state_cache.proofs.{Stands.ready_of, Runs.ill_formed}
use Rattle.internal_storage.proofs.Handed.{handed_back}
use Rattle.internal_storage.proofs.append.append_entry_with_batching.Goals as goal

pub returns-then-not-well_formed : goal.returns-then-not-well_formed
returns-then-not-well_formed c =
    ill_formed (append (record { key = c.args.key; said = said_is c.args.said } ∷ [])) true
    (raw c.args.index c.args.log.now c.args.snapshot.now)
    (sym c.well_formed-2.ensures ∙ c.if-not-well_formed.true)

pub append_entry_with_batching-requires : goal.append_entry_with_batching-requires
append_entry_with_batching-requires c =
    ready_of _ (sym c.well_formed-2.ensures ∙ c.if-not-well_formed.false)

pub returns-in_err-flushed : goal.returns-in_err-flushed
returns-in_err-flushed c =
    rw (passed_up c.from_residual.result _ c.from_residual.ensures.1)
    (handed_back (append (record { key = c.args.key; said = said_is c.args.said } ∷ [])) true (raw c.args.index c.args.log.now c.args.snapshot.now) _ _ _ c.in_err-flushed.ensures)
