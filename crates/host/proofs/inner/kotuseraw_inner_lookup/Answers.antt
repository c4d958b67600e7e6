use Rattle.words.proofs.Prelude.{ap, ◌∙◌}
use Rattle.host.specs.Plain.{plain, a_word}
use Rattle.host.proofs.inner.kotuseraw_inner_lookup.Goals as goal

pub returns : goal.returns
returns c =
    c.tell.ensures ∙ ap (plain a_word) c.look.ensures
