-- `internal_storage::decide::set_promise` meets its contract: refusal 12, or what the call on a well-formed log comes
-- to.
use Rattle.words.proofs.Prelude.{sym, ◌∙◌, true}
use Rattle.entry.proofs.RefusalLaws.{passed_up}
use Rattle.model.specs.Calls.{set_promise}
use Rattle.state_cache.specs.State.{raw}
use Rattle.state_cache.proofs.{Stands.ready_of, Runs.ill_formed}
use Rattle.internal_storage.proofs.Handed.{handed_back}
use Rattle.internal_storage.proofs.decide.set_promise.Goals as goal

pub returns-then-not-well_formed : goal.returns-then-not-well_formed
returns-then-not-well_formed c =
    ill_formed (set_promise c.args.n_prom) true (raw c.args.index c.args.log.now c.args.snapshot.now)
    (sym c.well_formed-2.ensures ∙ c.if-not-well_formed.true)

pub set_promise-requires : goal.set_promise-requires
set_promise-requires c =
    ready_of _ (sym c.well_formed-2.ensures ∙ c.if-not-well_formed.false)

pub returns-in_err-set_promise : goal.returns-in_err-set_promise
returns-in_err-set_promise c =
    rw (passed_up c.from_residual.result _ c.from_residual.ensures.1)
    (handed_back (set_promise c.args.n_prom) true (raw c.args.index c.args.log.now c.args.snapshot.now) _ _ _ c.in_err-set_promise.ensures)
