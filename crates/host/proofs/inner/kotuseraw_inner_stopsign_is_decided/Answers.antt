use Rattle.words.proofs.Prelude.{ap, ◌∙◌}
use Rattle.model.specs.Numbers.{stop_decided}
use Rattle.state_cache.specs.State.{raw}
use Rattle.state_cache.proofs.{Small.sound_small, Runs.asked_of}
use Rattle.host.specs.Plain.{plain, a_flag}
use Rattle.host.proofs.inner.kotuseraw_inner_stopsign_is_decided.Goals as goal

pub stop_decided-requires : goal.stop_decided-requires
stop_decided-requires c =
    sound_small _ c.requires.numbers

pub returns : goal.returns
returns c =
    let x = raw c.args.index c.args.log.now c.args.snapshot.now in
    c.tell.ensures ∙ ap (plain a_flag)
    (asked_of stop_decided x c.requires.okay c.stop_decided.result c.stop_decided.ensures)
