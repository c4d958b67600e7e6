-- `ballot_leader_election::outgoing_mut` meets its contract: 12, else the messages, and none left.
use Rattle.words.proofs.Prelude.{sym, ap, ap₂, ◌∙◌, []}
use Rattle.entry.specs.Guards.{replied}
use Rattle.entry.proofs.GuardLaws.{found, clear_all}
use Rattle.ballot_leader_election.specs.{declared.Outgoing.Outgoing, declared.BallotLeaderElection.BallotLeaderElection, State.formed, State.replies_in}
use Rattle.ballot_leader_election.specs.{State.standing_in, State.laid_messages, Calls.outgoing_mut, Run.outcome, Run.handed_out}
use Rattle.ballot_leader_election.proofs.{Forming.formed_facts, Laying.back_replies, Laying.back_messages, Laying.laid_parts}
use Rattle.ballot_leader_election.proofs.Coming.{err_is, refuses_ill_formed, stands}
use Rattle.ballot_leader_election.proofs.outgoing_mut.Goals as goal

pub returns-in_err-checked : goal.returns-in_err-checked
returns-in_err-checked c =
    rw (err_is c.from_residual.result _ c.from_residual.ensures.1)
    (ap (handed_out laid_messages) (refuses_ill_formed outgoing_mut c.args.e _ c.in_err-checked.ensures))

pub returns : goal.returns
returns c =
    let e = c.args.e in
    let h = ap formed (sym c.in_ok-checked.ensures) ∙ c.in_ok-checked.field-0.is_formed in
    let f = formed_facts e h in
    ap₂ (λ (l : Outgoing) (x : BallotLeaderElection). outcome (replied l) x) (sym (back_messages e.outgoing f.outgoing))
    (laid_parts e f.peers e.hb_round e.heartbeat_replies e.prev_replies
    (replies_in e.heartbeat_replies) (replies_in e.prev_replies) (standing_in e) c.no_messages.result []
    (sym (back_replies e.heartbeat_replies f.replies)) (sym (back_replies e.prev_replies f.prev))
    c.no_messages.ensures)
    ∙ ap (handed_out laid_messages) (stands outgoing_mut e h (found clear_all))
