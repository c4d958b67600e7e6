use Rattle.words.proofs.Prelude.{ap, ◌∙◌}
use Rattle.model.specs.Numbers.{accepted_of}
use Rattle.state_cache.specs.State.{raw}
use Rattle.state_cache.proofs.{Small.sound_small, Runs.asked_of}
use Rattle.host.specs.Plain.{plain, a_number}
use Rattle.host.proofs.inner.kotuseraw_inner_get_accepted_idx.Goals as goal

pub accepted-requires : goal.accepted-requires
accepted-requires c =
    sound_small _ c.requires.numbers

pub returns : goal.returns
returns c =
    let x = raw c.args.index c.args.log.now c.args.snapshot.now in
    c.tell.ensures
    ∙ ap (plain a_number) (asked_of accepted_of x c.requires.okay c.accepted.result c.accepted.ensures)
