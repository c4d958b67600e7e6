use Rattle.words.proofs.Prelude.{ap, ◌∙◌}
use Rattle.model.specs.Numbers.{log_decided}
use Rattle.state_cache.specs.State.{raw}
use Rattle.state_cache.proofs.{Small.sound_small, Runs.asked_of}
use Rattle.host.specs.Plain.{plain, a_number}
use Rattle.host.proofs.inner.kotuseraw_inner_get_decided_idx_without_stopsign.Goals as goal

pub log_decided-requires : goal.log_decided-requires
log_decided-requires c =
    sound_small _ c.requires.numbers

pub returns : goal.returns
returns c =
    let x = raw c.args.index c.args.log.now c.args.snapshot.now in
    c.tell.ensures
    ∙ ap (plain a_number) (asked_of log_decided x c.requires.okay c.log_decided.result c.log_decided.ensures)
