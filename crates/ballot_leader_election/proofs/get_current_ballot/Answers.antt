-- `ballot_leader_election::get_current_ballot` meets its contract: 12, else the ballot.
use Rattle.words.proofs.Prelude.{sym, ap, ◌∙◌}
use Rattle.entry.specs.Guards.{replied}
use Rattle.entry.proofs.GuardLaws.{found, clear_all}
use Rattle.ballot_leader_election.specs.{declared.BallotLeaderElection.BallotLeaderElection, State.formed, Calls.get_current_ballot, Run.outcome}
use Rattle.ballot_leader_election.proofs.{Forming.formed_facts, Laying.laid_back, Coming.err_is, Coming.refuses_ill_formed, Coming.stands}
use Rattle.ballot_leader_election.proofs.get_current_ballot.Goals as goal

pub returns-in_err-checked : goal.returns-in_err-checked
returns-in_err-checked c =
    rw (err_is c.from_residual.result _ c.from_residual.ensures.1)
    (refuses_ill_formed get_current_ballot c.args.e _ c.in_err-checked.ensures)

pub returns : goal.returns
returns c =
    let e = c.args.e in
    let same = c.in_ok-checked.ensures in
    let h = ap formed (sym same) ∙ c.in_ok-checked.field-0.is_formed in
    rw same
    (ap (λ (x : BallotLeaderElection). outcome (replied e.current_ballot) x) (laid_back e (formed_facts e h))
    ∙ stands get_current_ballot e h (found clear_all))
