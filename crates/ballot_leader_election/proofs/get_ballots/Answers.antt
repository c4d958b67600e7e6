-- `ballot_leader_election::get_ballots` meets its contract: 12, else the replies of the round before.
use Rattle.words.proofs.Prelude.{sym, ap, ap₂, ◌∙◌}
use Rattle.entry.specs.Guards.{replied}
use Rattle.entry.proofs.GuardLaws.{found, clear_all}
use Rattle.ballot_leader_election.specs.{declared.Replies.Replies, declared.BallotLeaderElection.BallotLeaderElection, State.laid_replies, State.formed}
use Rattle.ballot_leader_election.specs.{Calls.get_ballots, Run.outcome, Run.handed_out}
use Rattle.ballot_leader_election.proofs.{Forming.formed_facts, Laying.back_replies, Laying.laid_back}
use Rattle.ballot_leader_election.proofs.Coming.{err_is, refuses_ill_formed, stands}
use Rattle.ballot_leader_election.proofs.get_ballots.Goals as goal

pub returns-in_err-checked : goal.returns-in_err-checked
returns-in_err-checked c =
    rw (err_is c.from_residual.result _ c.from_residual.ensures.1)
    (ap (handed_out laid_replies) (refuses_ill_formed get_ballots c.args.e _ c.in_err-checked.ensures))

pub returns : goal.returns
returns c =
    let e = c.args.e in
    let same = c.in_ok-checked.ensures in
    let h = ap formed (sym same) ∙ c.in_ok-checked.field-0.is_formed in
    let f = formed_facts e h in
    rw same
    (ap₂ (λ (l : Replies) (x : BallotLeaderElection). outcome (replied l) x) (sym (back_replies e.prev_replies f.prev))
    (laid_back e f)
    ∙ ap (handed_out laid_replies) (stands get_ballots e h (found clear_all)))
