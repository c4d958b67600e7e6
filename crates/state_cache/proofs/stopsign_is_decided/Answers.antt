-- `state_cache::stopsign_is_decided` meets its contract: refusal 12, or whether the stop-sign is decided.
use Rattle.words.proofs.Prelude.{◌≡◌, sym, ◌∙◌, true}
use Rattle.model.specs.Numbers.{stop_decided}
use Rattle.state_cache.specs.State.{raw, formed}
use Rattle.state_cache.proofs.{Small.sound_small, Stands.ready_of, Runs.not_asked, Runs.asked_of}
use Rattle.state_cache.proofs.stopsign_is_decided.Goals as goal
use Rattle.state_cache.proofs.stopsign_is_decided.Goals.{Else-not-well_formed}

okay : (e : Else-not-well_formed) → formed (raw e.args.index e.args.log.now e.args.snapshot.now) ≡ true
okay e =
    sym e.well_formed-2.ensures ∙ e.if-not-well_formed.false

pub returns-then-not-well_formed : goal.returns-then-not-well_formed
returns-then-not-well_formed c =
    not_asked stop_decided (raw c.args.index c.args.log.now c.args.snapshot.now)
    (sym c.well_formed-2.ensures ∙ c.if-not-well_formed.true)

pub stop_decided-requires : goal.stop_decided-requires
stop_decided-requires c =
    sound_small _ (ready_of _ (okay c)).numbers

pub returns : goal.returns
returns c =
    asked_of stop_decided (raw c.args.index c.args.log.now c.args.snapshot.now)
    (okay (goal.at.returns c).Else-not-well_formed) _ c.stop_decided.ensures
