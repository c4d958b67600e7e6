-- `compaction::compact` meets its contract: refusal 12, or what a compaction of a well-formed log comes to.
use Rattle.words.proofs.Prelude.{sym, ◌∙◌, true}
use Rattle.model.specs.Calls.{compact}
use Rattle.state_cache.specs.State.{raw}
use Rattle.state_cache.proofs.{Stands.ready_of, Runs.ill_formed}
use Rattle.entry.specs.Upto.{upto_of}
use Rattle.compaction.proofs.compact.Goals as goal

pub returns-then-not-well_formed : goal.returns-then-not-well_formed
returns-then-not-well_formed c =
    ill_formed (compact c.args.what (upto_of c.args.upto)) true
    (raw c.args.index c.args.log.now c.args.snapshot.now)
    (sym c.well_formed-2.ensures ∙ c.if-not-well_formed.true)

pub compact_at-requires : goal.compact_at-requires
compact_at-requires c =
    ready_of (raw c.args.index c.args.log.now c.args.snapshot.now)
    (sym c.well_formed-2.ensures ∙ c.if-not-well_formed.false)
