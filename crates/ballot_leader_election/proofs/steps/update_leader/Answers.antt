-- `ballot_leader_election::steps::update_leader` meets its contract: by whether the greatest ballot, where there is one, is above the leader.
use Rattle.words.proofs.Prelude.{sym, ◌∙◌}
use Rattle.ballot_leader_election.specs.Steps.{update_leader}
use Rattle.ballot_leader_election.proofs.steps.update_leader.Goals as goal

pub returns-in_default : goal.returns-in_default
unfolding update_leader
returns-in_default c = simp (sym c.max_ballot.ensures ∙ c.in_default.is)

pub returns-then-above : goal.returns-then-above
unfolding update_leader
returns-then-above c = simp (sym c.max_ballot.ensures ∙ c.in-Some.is, sym c.above.ensures ∙ c.if-above.true)

pub returns : goal.returns
unfolding update_leader
returns c = simp (sym c.max_ballot.ensures ∙ c.in-Some.is, sym c.above.ensures ∙ c.if-above.false)
