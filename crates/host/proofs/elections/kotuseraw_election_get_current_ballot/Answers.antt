use Rattle.words.proofs.Prelude.{ap, ◌∙◌}
use Rattle.entry.specs.declared.Ballot.{Ballot}
use Rattle.ballot_leader_election.specs.Run.{Outcome}
use Rattle.host.specs.Elections.{ballot_as}
use Rattle.host.proofs.elections.kotuseraw_election_get_current_ballot.Goals as goal

pub returns : goal.returns
returns c =
    c.ballot_said.ensures ∙ ap (λ (o : Outcome Ballot). ballot_as o.answer) c.get_current_ballot.ensures
