-- `ballot_leader_election::rounds::handle_reply` meets its contract: one of another round or configuration changes nothing; 20 where 16 replies are held, else one more.
use Rattle.words.proofs.Prelude.{◌≡◌, sym, ap, ◌∙◌, [], ◌∷◌, ◌++◌}
use Rattle.entry.specs.Guards.{replied}
use Rattle.ballot_leader_election.specs.{declared.BallotLeaderElection.BallotLeaderElection, State.standing_in, State.election_of, State.laid_election, State.replies_in}
use Rattle.ballot_leader_election.specs.{declared.Replies.Replies, State.messages_in, Steps.replying, Calls.reply_guards, Run.outcome}
use Rattle.ballot_leader_election.proofs.Laying.{kept_in, back_replies, back_messages, kept_laid, laid_parts, laid_back}
use Rattle.ballot_leader_election.proofs.{Coming.comes_refused, Coming.comes_stands, Verdicts.other, Verdicts.kept, Verdicts.reply_other}
use Rattle.ballot_leader_election.proofs.Verdicts.{reply_full, reply_kept}
use Rattle.ballot_leader_election.proofs.Forming.{formed_facts}
use Rattle.ballot_leader_election.specs.State.{formed}
use Rattle.ballot_leader_election.proofs.Coming.{err_is, comes_ill, comes_well}
use Rattle.ballot_leader_election.proofs.rounds.handle_reply.Goals as goal

pub returns-in_err-checked : goal.returns-in_err-checked
returns-in_err-checked c =
    rw (err_is c.from_residual.result _ c.from_residual.ensures.1)
    (comes_ill (reply_guards c.args.rep (election_of c.args.e.now)) tt (replying c.args.rep (election_of c.args.e.now)) c.args.e.now _ c.in_err-checked.ensures)

pub returns-then-not-is_ours : goal.returns-then-not-is_ours
returns-then-not-is_ours c =
    let e = c.args.e.now in
    let h = ap formed (sym c.in_ok-checked.ensures) ∙ c.in_ok-checked.field-0.is_formed in
    let f = formed_facts e h in
    let r = c.args.rep in
    let o = sym c.is_ours.ensures ∙ c.if-not-is_ours.true in
    ap (λ (x : BallotLeaderElection). outcome (replied tt) x)
    (laid_back e f ∙ ap laid_election (other e f r o))
    ∙ comes_stands (reply_guards r (election_of e)) tt (replying r (election_of e)) e (reply_other e f r o)
    ∙ comes_well (reply_guards r (election_of e)) tt (replying r (election_of e)) e h

pub returns-then-e-ge-REPLIES : goal.returns-then-e-ge-REPLIES
returns-then-e-ge-REPLIES c =
    let e = c.args.e.now in
    let h = ap formed (sym c.in_ok-checked.ensures) ∙ c.in_ok-checked.field-0.is_formed in
    let f = formed_facts e h in
    let r = c.args.rep in
    comes_refused (reply_guards r (election_of e)) tt (replying r (election_of e)) e 20 0
    (reply_full e f r (sym c.is_ours.ensures ∙ c.if-not-is_ours.false) c.if-e-ge-REPLIES.true)
    ∙ comes_well (reply_guards r (election_of e)) tt (replying r (election_of e)) e h

pub returns : goal.returns
returns c =
    let e = c.args.e.now in
    let h = ap formed (sym c.in_ok-checked.ensures) ∙ c.in_ok-checked.field-0.is_formed in
    let f = formed_facts e h in
    let r = c.args.rep in
    let o = sym c.is_ours.ensures ∙ c.if-not-is_ours.false in
    let held : Replies = record { count = c.push.new.count; held = c.push.new.held } in
    let pushed : held ≡ kept_in e.heartbeat_replies r = λ t. record { count = c.push.ensures.counted t; held = c.push.ensures.kept t } in
    ap (λ (x : BallotLeaderElection). outcome (replied tt) x)
    (laid_parts e f.peers e.hb_round held e.prev_replies
    (replies_in e.heartbeat_replies ++ r ∷ []) (replies_in e.prev_replies) (standing_in e) e.outgoing
    (messages_in e.outgoing) (pushed ∙ kept_laid e.heartbeat_replies r f.replies c.if-e-ge-REPLIES.false)
    (sym (back_replies e.prev_replies f.prev)) (sym (back_messages e.outgoing f.outgoing))
    ∙ ap laid_election (kept e f r o))
    ∙ comes_stands (reply_guards r (election_of e)) tt (replying r (election_of e)) e
    (reply_kept e f r o c.if-e-ge-REPLIES.false)
    ∙ comes_well (reply_guards r (election_of e)) tt (replying r (election_of e)) e h
