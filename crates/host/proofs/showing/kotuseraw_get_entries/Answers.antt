use Rattle.words.proofs.Prelude.{ap, ◌∙◌}
use Rattle.host.proofs.{Carry.span_told}
use Rattle.host.specs.Plain.{plain, a_span}
use Rattle.host.proofs.showing.kotuseraw_get_entries.Goals as goal

pub returns : goal.returns
returns c =
    c.said.ensures ∙ span_told c.args.log.now c.get_entries_reply.result ∙ ap (plain a_span) c.get_entries_reply.ensures
