-- `ballot_leader_election::forms::request` meets its contract: the rest of its reply is blank.
use Rattle.ballot_leader_election.proofs.forms.request.Goals as goal

pub returns : goal.returns
returns c = simp c.no_reply.ensures
