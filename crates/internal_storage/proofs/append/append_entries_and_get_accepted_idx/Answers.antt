-- `internal_storage::append::append_entries_and_get_accepted_idx` meets its contract: refusal 12, or what the call on
-- a well-formed log comes to.
use Rattle.words.proofs.Prelude.{sym, ap, ◌∙◌}
use Rattle.entry.specs.Change.{entries_in, whole_in}
use Rattle.entry.proofs.RefusalLaws.{passed_up}
use Rattle.model.specs.Calls.{append}
use Rattle.state_cache.specs.State.{raw}
use Rattle.state_cache.proofs.{Stands.ready_of, Runs.ill_formed}
use Rattle.internal_storage.specs.Replies.{with_index_only}
use Rattle.internal_storage.proofs.Handed.{index_handed_back}
use Rattle.internal_storage.proofs.append.append_entries_and_get_accepted_idx.Goals as goal

pub returns-then-not-well_formed : goal.returns-then-not-well_formed
returns-then-not-well_formed c =
    ap with_index_only (ill_formed (append (entries_in c.args.entries.now)) (whole_in c.args.entries.now)
    (raw c.args.index c.args.log.now c.args.snapshot.now)
    (sym c.well_formed-2.ensures ∙ c.if-not-well_formed.true))

pub append_entries_and_get_accepted_idx-requires : goal.append_entries_and_get_accepted_idx-requires
append_entries_and_get_accepted_idx-requires c =
    ready_of _ (sym c.well_formed-2.ensures ∙ c.if-not-well_formed.false)

pub returns-in_err-accepted : goal.returns-in_err-accepted
returns-in_err-accepted c =
    rw (passed_up c.from_residual.result _ c.from_residual.ensures.1)
    (index_handed_back (entries_in c.args.entries.now) (whole_in c.args.entries.now) (raw c.args.index c.args.log.now c.args.snapshot.now) _ _ _ c.in_err-accepted.ensures)
