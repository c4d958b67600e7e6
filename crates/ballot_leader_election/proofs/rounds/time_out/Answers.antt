-- `ballot_leader_election::rounds::time_out` meets its contract: the steps one after the other; 18, then 19, before anything is made.
use Rattle.words.proofs.Prelude.{arith, ◌≡◌, sym, ap, ◌∙◌, ◌<◌, true}
use Rattle.words.proofs.Tests.{or_left}
use Rattle.entry.specs.Limits.{last_round}
use Rattle.ballot_leader_election.specs.{State.replies_in, State.standing_in, State.election_of, Steps.update_leader, Steps.leading, Steps.timed_out, Steps.promised, declared.BallotLeaderElection.BallotLeaderElection}
use Rattle.ballot_leader_election.specs.{Calls.timeout_guards, Inner.Begins}
use Rattle.ballot_leader_election.proofs.Coming.{comes_refused, comes_stands}
use Rattle.ballot_leader_election.proofs.Timing.{timeout_short, timeout_spent, timeout_stands, timed_out_lem, begins, due_room}
use Rattle.ballot_leader_election.proofs.Forming.{formed_facts}
use Rattle.ballot_leader_election.specs.State.{formed}
use Rattle.ballot_leader_election.proofs.Coming.{err_is, comes_ill, comes_well}
use Rattle.ballot_leader_election.proofs.rounds.time_out.Goals as goal
use Rattle.ballot_leader_election.proofs.rounds.time_out.Goals.{After-takeover_due-due, Else-spent}

pub returns-in_err-checked : goal.returns-in_err-checked
returns-in_err-checked c =
    rw (err_is c.from_residual.result _ c.from_residual.ensures.1)
    (comes_ill (timeout_guards (election_of c.args.e.now)) (leading (timed_out c.args.promise (election_of c.args.e.now)).standing) (timed_out c.args.promise (election_of c.args.e.now)) c.args.e.now _ c.in_err-checked.ensures)

updated-is : (d : After-takeover_due-due)
    → d.update_leader-updated.result ≡ update_leader (replies_in d.args.e.now.heartbeat_replies) (standing_in d.args.e.now)
updated-is d =
    d.update_leader-updated.ensures
    ∙ ap (update_leader (replies_in d.args.e.now.heartbeat_replies)) d.standing_of.ensures

taken-room : (l : Else-spent) → l.takeover_due-due.result ≡ true → l.update_happiness-judged.result.leader.n < last_round
taken-room l =
    due_room l.args.e.now.hb_round l.update_happiness-judged.result.leader.n l.takeover_due-due.result
    (omega (arith, l.update_happiness-judged.type_inv)) (sym l.is_spent-spent.ensures ∙ l.if-spent.false)

begins-at : (l : Else-spent) → Begins l.args.e.now
begins-at l =
    begins l.args.e.now (formed_facts _ (ap formed (sym l.in_ok-checked.ensures) ∙ l.in_ok-checked.field-0.is_formed)) l.if-full.false (omega (arith, l.well_formed))
    (or_left _ _ (sym l.is_spent-spent.ensures ∙ l.if-spent.false))

pub returns-then-full : goal.returns-then-full
returns-then-full c =
    let e = c.args.e.now in
    let h = ap formed (sym c.in_ok-checked.ensures) ∙ c.in_ok-checked.field-0.is_formed in
    let f = formed_facts e h in
    comes_refused (timeout_guards (election_of e)) (leading (timed_out c.args.promise (election_of e)).standing)
    (timed_out c.args.promise (election_of e)) e 18 0
    (timeout_short e f c.args.promise c.update_leader-updated.result c.update_happiness-judged.result c.takeover_due-due.result (updated-is (goal.at.returns-then-full c).After-takeover_due-due)
    c.update_happiness-judged.ensures c.takeover_due-due.ensures c.is_spent-spent.result c.is_spent-spent.ensures c.if-full.true)
    ∙ comes_well (timeout_guards (election_of e)) (leading (timed_out c.args.promise (election_of e)).standing)
    (timed_out c.args.promise (election_of e)) e h

pub returns-then-spent : goal.returns-then-spent
returns-then-spent c =
    let e = c.args.e.now in
    let h = ap formed (sym c.in_ok-checked.ensures) ∙ c.in_ok-checked.field-0.is_formed in
    let f = formed_facts e h in
    comes_refused (timeout_guards (election_of e)) (leading (timed_out c.args.promise (election_of e)).standing)
    (timed_out c.args.promise (election_of e)) e 19 0
    (timeout_spent e f c.args.promise c.update_leader-updated.result c.update_happiness-judged.result c.takeover_due-due.result (updated-is (goal.at.returns-then-spent c).After-takeover_due-due)
    c.update_happiness-judged.ensures c.takeover_due-due.ensures c.is_spent-spent.result c.is_spent-spent.ensures
    c.if-full.false c.if-spent.true)
    ∙ comes_well (timeout_guards (election_of e)) (leading (timed_out c.args.promise (election_of e)).standing)
    (timed_out c.args.promise (election_of e)) e h

pub returns : goal.returns
returns c =
    let e = c.args.e.now in
    let h = ap formed (sym c.in_ok-checked.ensures) ∙ c.in_ok-checked.field-0.is_formed in
    let f = formed_facts e h in
    let p = c.args.promise in
    timed_out_lem e f p c.update_leader-updated.result c.update_happiness-judged.result c.takeover_due-due.result (updated-is (goal.at.returns c).After-takeover_due-due)
    c.update_happiness-judged.ensures c.takeover_due-due.ensures c.check_takeover-taken.result
    c.sync_promise-stands.result c.check_takeover-taken.ensures
    (c.sync_promise-stands.ensures
    ∙ ap (λ (x : BallotLeaderElection). promised x.pid p c.check_takeover-taken.result) c.new_round.ensures)
    c.leads.result c.new_round.new.e c.set_standing.new.e c.leads.ensures c.new_round.ensures c.set_standing.ensures
    ∙ comes_stands (timeout_guards (election_of e)) (leading (timed_out p (election_of e)).standing)
    (timed_out p (election_of e)) e
    (timeout_stands e f p c.update_leader-updated.result c.update_happiness-judged.result c.takeover_due-due.result (updated-is (goal.at.returns c).After-takeover_due-due)
    c.update_happiness-judged.ensures c.takeover_due-due.ensures c.is_spent-spent.result c.is_spent-spent.ensures
    c.if-full.false c.if-spent.false)
    ∙ comes_well (timeout_guards (election_of e)) (leading (timed_out c.args.promise (election_of e)).standing)
    (timed_out c.args.promise (election_of e)) e h

pub shared_ref_as_front-replies : goal.shared_ref_as_front-replies
shared_ref_as_front-replies c =
    let held = (formed_facts _ (ap formed (sym c.in_ok-checked.ensures) ∙ c.in_ok-checked.field-0.is_formed)).replies in omega (arith, held.few, held.long)

pub overflow_add-full : goal.overflow_add-full
overflow_add-full c =
    let f = formed_facts _ (ap formed (sym c.in_ok-checked.ensures) ∙ c.in_ok-checked.field-0.is_formed) in
    omega (arith, f.outgoing.few, f.peers.few)

pub check_takeover-taken-requires : goal.check_takeover-taken-requires
check_takeover-taken-requires c =
    taken-room (goal.at.check_takeover-taken-requires c).Else-spent

pub new_round-requires : goal.new_round-requires
new_round-requires c =
    begins-at (goal.at.new_round-requires c).Else-spent
