use Rattle.words.proofs.Prelude.{ap, ◌∙◌}
use Rattle.host.specs.{Plain.nothing, Elections.election_as}
use Rattle.host.proofs.elections.kotuseraw_election_handle.Goals as goal

pub returns : goal.returns
returns c =
    c.reply.ensures ∙ ap (election_as nothing) c.handle.ensures
