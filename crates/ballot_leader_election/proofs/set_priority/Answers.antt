-- `ballot_leader_election::set_priority` meets its contract: 12, else the ballot has the priority.
use Rattle.words.proofs.Prelude.{sym, ap, ◌∙◌}
use Rattle.entry.specs.Guards.{replied}
use Rattle.entry.proofs.GuardLaws.{found, clear_all}
use Rattle.ballot_leader_election.specs.{declared.BallotLeaderElection.BallotLeaderElection, State.formed, State.replies_in, State.messages_in}
use Rattle.ballot_leader_election.specs.{Steps.standing, Steps.of_priority, Calls.set_priority, Run.outcome}
use Rattle.ballot_leader_election.proofs.{Forming.formed_facts, Laying.back_replies, Laying.back_messages, Laying.laid_parts}
use Rattle.ballot_leader_election.proofs.Coming.{err_is, refuses_ill_formed, stands}
use Rattle.ballot_leader_election.proofs.set_priority.Goals as goal

pub returns-in_err-checked : goal.returns-in_err-checked
returns-in_err-checked c =
    rw (err_is c.from_residual.result _ c.from_residual.ensures.1)
    (refuses_ill_formed (set_priority c.args.p) c.args.e _ c.in_err-checked.ensures)

pub returns : goal.returns
returns c =
    let e = c.args.e in
    let h = ap formed (sym c.in_ok-checked.ensures) ∙ c.in_ok-checked.field-0.is_formed in
    let f = formed_facts e h in
    ap (λ (x : BallotLeaderElection). outcome (replied tt) x)
    (laid_parts e f.peers e.hb_round e.heartbeat_replies e.prev_replies
    (replies_in e.heartbeat_replies) (replies_in e.prev_replies)
    (standing (of_priority c.args.p e.current_ballot) e.leader e.happy) e.outgoing
    (messages_in e.outgoing) (sym (back_replies e.heartbeat_replies f.replies))
    (sym (back_replies e.prev_replies f.prev)) (sym (back_messages e.outgoing f.outgoing)))
    ∙ stands (set_priority c.args.p) e h (found clear_all)
