-- `reading::lookup_many` meets its contract: refusal 12, then the lookups in a well-formed log.
use Rattle.words.proofs.Prelude.{sym, ◌∙◌}
use Rattle.state_cache.specs.State.{raw}
use Rattle.reading.proofs.{Filling.many_ill_formed}
use Rattle.reading.proofs.lookup_many.Goals as goal

pub returns-else-well_formed : goal.returns-else-well_formed
returns-else-well_formed c =
    many_ill_formed (raw c.args.index c.args.log.now c.args.snapshot.now) c.args.keys.now c.args.replies.now
    (sym c.well_formed-2.ensures ∙ c.if-well_formed.false)
