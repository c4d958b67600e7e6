-- `ballot_leader_election::hb_timeout` meets its contract: it is the call on a copy of the state.
use Rattle.ballot_leader_election.specs.{Calls.hb_timeout, Run.run}
use Rattle.ballot_leader_election.proofs.{Coming.err_is, Ending.refused_so}
use Rattle.ballot_leader_election.proofs.hb_timeout.Goals as goal

pub returns-in_err-leads : goal.returns-in_err-leads
unfolding run
returns-in_err-leads c =
    rw (err_is c.from_residual.result _ c.from_residual.ensures.1)
    (refused_so (hb_timeout c.args.promise) c.args.e _ _ _ c.in_err-leads.ensures)

pub returns : goal.returns
unfolding run
returns c =
    c.in_ok-leads.ensures
