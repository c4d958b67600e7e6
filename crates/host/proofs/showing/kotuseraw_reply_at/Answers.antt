use Rattle.words.proofs.Prelude.{ap, ◌∙◌}
use Rattle.host.specs.Plain.{a_word}
use Rattle.host.proofs.showing.kotuseraw_reply_at.Goals as goal

pub returns : goal.returns
returns c =
    c.tell.ensures ∙ ap a_word c.reply_at.ensures
