-- The calls of document 003 on a state: the refusals of each in E8's order, its reply, and the state after it.
use Rattle.std.specs.Prelude.{ℕ, ◌+◌, Bool, ◌&&◌, ◌||◌, List, [], ◌∷◌, ltb, eqb, length, if◌then◌else◌}
use Rattle.std.proofs.Math.Option.{Option}
use Rattle.entry.specs.Limits.{most_replies, most_outgoing, last_round}
use Rattle.entry.specs.Guards.{Guard, guard}
use Rattle.entry.specs.declared.Ballot.{Ballot}
use Rattle.ballot_leader_election.specs.declared.HeartbeatReply.{HeartbeatReply}
use Rattle.ballot_leader_election.specs.declared.BLEMessage.{BLEMessage}
use Rattle.ballot_leader_election.specs.State.{Election}
use Rattle.ballot_leader_election.specs.Steps.{takeover_due, leading, new_round, leader_step, happiness_step, timed_out}
use Rattle.ballot_leader_election.specs.Steps.{sending, requested, ours, replying, prioritized}

pub data Call : Type 0 where
  set_priority : ℕ → Call
  outgoing_mut : Call
  handle : BLEMessage → Call
  new_hb_round : Call
  hb_timeout : Ballot → Call
  get_current_ballot : Call
  get_ballots : Call

abbrev pub Reply : Call → Type 0
Reply (set_priority p) = Unit {0}
Reply outgoing_mut = List BLEMessage
Reply (handle m) = Unit {0}
Reply new_hb_round = Unit {0}
Reply (hb_timeout p) = Option Ballot
Reply get_current_ballot = Ballot
Reply get_ballots = List HeartbeatReply

-- 18: the outgoing list is short of so many places
abbrev pub short : ℕ → Election → Guard
short needed x = guard 18 0 (ltb most_outgoing (length x.outgoing + needed))

-- 19: "the round at its largest where a new one starts, or the leader's number at its largest where a takeover is due"
abbrev pub round_spent : Election → Bool
round_spent x = eqb x.round last_round

abbrev pub takeover_spent : Election → Bool
takeover_spent x =
    let y = happiness_step (leader_step x) in
    takeover_due (length y.peers) y.replies y.standing && eqb y.standing.leader.n last_round

-- 20: "a reply that would be kept when 16 are held"
abbrev pub request_guards : Election → List Guard
request_guards x = short 1 x ∷ []

abbrev pub reply_guards : HeartbeatReply → Election → List Guard
reply_guards r x = guard 20 0 (ours r x && ltb most_replies (length x.replies + 1)) ∷ []

abbrev pub round_guards : Election → List Guard
round_guards x = short (length x.peers) x ∷ guard 19 0 (round_spent x) ∷ []

abbrev pub timeout_guards : Election → List Guard
timeout_guards x = short (length x.peers) x ∷ guard 19 0 (round_spent x || takeover_spent x) ∷ []

-- after 12: "earlier number first"
abbrev pub guards : Call → Election → List Guard
guards (set_priority p) x = []
guards outgoing_mut x = []
guards (handle m) x = if m.is_reply then reply_guards m.reply x else request_guards x
guards new_hb_round x = round_guards x
guards (hb_timeout p) x = timeout_guards x
guards get_current_ballot x = []
guards get_ballots x = []

abbrev pub effect : Call → Election → Election
effect (set_priority p) x = prioritized p x
effect outgoing_mut x = sending [] x
effect (handle m) x = if m.is_reply then replying m.reply x else requested m.from m.reply.round x
effect new_hb_round x = new_round x
effect (hb_timeout p) x = timed_out p x
effect get_current_ballot x = x
effect get_ballots x = x

abbrev pub reply_of : (c : Call) → Election → Reply c
reply_of (set_priority p) x = tt
reply_of outgoing_mut x = x.outgoing
reply_of (handle m) x = tt
reply_of new_hb_round x = tt
reply_of (hb_timeout p) x = leading (timed_out p x).standing
reply_of get_current_ballot x = x.standing.current_ballot
reply_of get_ballots x = x.prev_replies
