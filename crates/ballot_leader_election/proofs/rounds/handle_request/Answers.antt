-- `ballot_leader_election::rounds::handle_request` meets its contract: 18 where 32 messages are held, else one more.
use Rattle.words.proofs.Prelude.{◌≡◌, sym, ap, ◌∙◌, [], ◌∷◌, ◌++◌}
use Rattle.entry.specs.Guards.{replied}
use Rattle.ballot_leader_election.specs.{declared.BallotLeaderElection.BallotLeaderElection, declared.BLEMessage.BLEMessage, State.standing_in, State.election_of}
use Rattle.ballot_leader_election.specs.{declared.Outgoing.Outgoing, State.replies_in, State.messages_in, Steps.reply_from, Steps.requested, Calls.request_guards, Run.outcome}
use Rattle.ballot_leader_election.proofs.Laying.{sent_to, back_replies, sent_laid, laid_parts}
use Rattle.ballot_leader_election.proofs.{Coming.comes_refused, Coming.comes_stands, Verdicts.request_short, Verdicts.request_stands}
use Rattle.ballot_leader_election.proofs.Forming.{formed_facts}
use Rattle.ballot_leader_election.specs.State.{formed}
use Rattle.ballot_leader_election.proofs.Coming.{err_is, comes_ill, comes_well}
use Rattle.ballot_leader_election.proofs.rounds.handle_request.Goals as goal

pub returns-in_err-checked : goal.returns-in_err-checked
returns-in_err-checked c =
    rw (err_is c.from_residual.result _ c.from_residual.ensures.1)
    (comes_ill (request_guards (election_of c.args.e.now)) tt (requested c.args.from c.args.round (election_of c.args.e.now)) c.args.e.now _ c.in_err-checked.ensures)

pub returns-then-e-ge-OUTGOING : goal.returns-then-e-ge-OUTGOING
returns-then-e-ge-OUTGOING c =
    let e = c.args.e.now in
    let h = ap formed (sym c.in_ok-checked.ensures) ∙ c.in_ok-checked.field-0.is_formed in
    let f = formed_facts e h in
    comes_refused (request_guards (election_of e)) tt (requested c.args.from c.args.round (election_of e)) e 18 0
    (request_short e f c.if-e-ge-OUTGOING.true)
    ∙ comes_well (request_guards (election_of e)) tt (requested c.args.from c.args.round (election_of e)) e h

pub returns : goal.returns
returns c =
    let e = c.args.e.now in
    let h = ap formed (sym c.in_ok-checked.ensures) ∙ c.in_ok-checked.field-0.is_formed in
    let f = formed_facts e h in
    let m = reply_from (election_of e) c.args.from c.args.round in
    let sent : Outgoing = record { count = c.push.new.count; held = c.push.new.held } in
    let pushed : sent ≡ sent_to e.outgoing c.reply_to-reply.result = λ t. record { count = c.push.ensures.counted t; held = c.push.ensures.kept t } in
    ap (λ (x : BallotLeaderElection). outcome (replied tt) x)
    (laid_parts e f.peers e.hb_round e.heartbeat_replies e.prev_replies
    (replies_in e.heartbeat_replies) (replies_in e.prev_replies) (standing_in e) sent (messages_in e.outgoing ++ m ∷ [])
    (sym (back_replies e.heartbeat_replies f.replies)) (sym (back_replies e.prev_replies f.prev))
    (pushed ∙ ap (λ (x : BLEMessage). sent_to e.outgoing x) c.reply_to-reply.ensures
    ∙ sent_laid e.outgoing m f.outgoing c.if-e-ge-OUTGOING.false))
    ∙ comes_stands (request_guards (election_of e)) tt (requested c.args.from c.args.round (election_of e)) e
    (request_stands e f c.if-e-ge-OUTGOING.false)
    ∙ comes_well (request_guards (election_of e)) tt (requested c.args.from c.args.round (election_of e)) e h
