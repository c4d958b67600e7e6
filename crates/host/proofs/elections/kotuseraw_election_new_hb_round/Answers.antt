use Rattle.words.proofs.Prelude.{ap, ◌∙◌}
use Rattle.host.specs.{Plain.nothing, Elections.election_as}
use Rattle.host.proofs.elections.kotuseraw_election_new_hb_round.Goals as goal

pub returns : goal.returns
returns c =
    c.reply.ensures ∙ ap (election_as nothing) c.new_hb_round.ensures
