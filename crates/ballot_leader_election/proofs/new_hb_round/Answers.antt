-- `ballot_leader_election::new_hb_round` meets its contract: it is the call on a copy of the state.
use Rattle.ballot_leader_election.specs.{Calls.new_hb_round, Run.run}
use Rattle.ballot_leader_election.proofs.{Coming.err_is, Ending.refused_so}
use Rattle.ballot_leader_election.proofs.new_hb_round.Goals as goal

pub returns-in_err-new_round_at : goal.returns-in_err-new_round_at
unfolding run
returns-in_err-new_round_at c =
    rw (err_is c.from_residual.result _ c.from_residual.ensures.1)
    (refused_so new_hb_round c.args.e _ _ _ c.in_err-new_round_at.ensures)

pub returns : goal.returns
unfolding run
returns c =
    c.in_ok-new_round_at.ensures
