-- `state_cache::load_cache` meets its contract: refusal 12, or the batch dropped.
use Rattle.words.proofs.Prelude.{sym, ◌∙◌, true}
use Rattle.model.specs.Calls.{reload}
use Rattle.state_cache.specs.State.{raw}
use Rattle.state_cache.proofs.{Stands.ready_of, Runs.ill_formed}
use Rattle.state_cache.proofs.load_cache.Goals as goal

pub returns-else-well_formed : goal.returns-else-well_formed
returns-else-well_formed c =
    ill_formed reload true (raw c.args.index c.args.log.now c.args.snapshot.now)
    (sym c.well_formed-2.ensures ∙ c.if-well_formed.false)

pub reload-requires : goal.reload-requires
reload-requires c =
    ready_of (raw c.args.index c.args.log.now c.args.snapshot.now)
    (sym c.well_formed-2.ensures ∙ c.if-well_formed.true)
