-- Document 003, function by function: what a round shows, the steps of a timeout, rounds and messages.
use Rattle.std.specs.Prelude.{ℕ, ◌+◌, ◌/◌, Bool, true, false, ◌&&◌, ◌||◌, not, List, [], ◌∷◌, ◌++◌, map, leb, eqb, length, if◌then◌else◌}
use Rattle.std.specs.Prelude.{Option as Optional, Some, None, count_by}
use Rattle.std.specs.List.{list_any, fold}
use Rattle.std.specs.Ordering.{is_gt}
use Rattle.std.proofs.Math.Option.{Option, none, some}
use Rattle.entry.specs.Order.{ballot_order, same_ballot, no_ballot}
use Rattle.entry.specs.declared.Ballot.{Ballot}
use Rattle.ballot_leader_election.specs.declared.HeartbeatReply.{HeartbeatReply}
use Rattle.ballot_leader_election.specs.declared.BLEMessage.{BLEMessage}
use Rattle.ballot_leader_election.specs.declared.BLEConfig.{BLEConfig}
use Rattle.ballot_leader_election.specs.declared.steps.Standing.{Standing}
use Rattle.ballot_leader_election.specs.State.{Election}

-- "a majority of peers plus self for both kinds"
unfoldable pub quorum : ℕ → ℕ → Bool
quorum peers nodes = leb ((peers + 1) / 2 + 1) nodes

-- one ballot greater than another, by the order, which does not look at the configuration
unfoldable pub above : Ballot → Ballot → Bool
above a b = is_gt (ballot_order a b)

-- `max()`: of equal ones the last
abbrev pub later_of : Ballot → Ballot → Ballot
later_of a b = if above a b then a else b

abbrev pub max_ballot : List HeartbeatReply → Optional Ballot
max_ballot [] = None
max_ballot (r ∷ rs) = Some (fold (λ (max : Ballot) (q : HeartbeatReply). later_of max q.ballot) r.ballot rs)

abbrev pub standing : Ballot → Ballot → Bool → Standing
standing mine leader happy = record { current_ballot = mine; leader = leader; happy = happy }

-- `update_leader`
abbrev pub leader_by : Optional Ballot → Standing → Standing
leader_by None s = s
leader_by (Some max) s =
    if above max s.leader then standing s.current_ballot max s.happy else s

unfoldable pub update_leader : List HeartbeatReply → Standing → Standing
update_leader rs s = leader_by (max_ballot rs) s

-- `update_happiness`: `==` looks at the configuration too, `<=` and `>` do not
unfoldable pub potential_followers : Ballot → List HeartbeatReply → ℕ
potential_followers mine rs = count_by (λ (r : HeartbeatReply). not (above r.leader mine)) rs

abbrev pub any_happy : List HeartbeatReply → Bool
any_happy rs = list_any (λ (r : HeartbeatReply). r.happy) rs

abbrev pub leader_happy : Ballot → List HeartbeatReply → Bool
leader_happy leader rs = list_any (λ (r : HeartbeatReply). same_ballot r.ballot leader && r.happy) rs

abbrev pub larger_happy : Ballot → List HeartbeatReply → Bool
larger_happy mine rs = list_any (λ (r : HeartbeatReply). above r.leader mine && r.happy) rs

abbrev pub leads : Standing → Bool
leads s = same_ballot s.leader s.current_ballot

unfoldable pub is_happy : ℕ → List HeartbeatReply → Standing → Bool
is_happy peers rs s =
    if leads s
    then quorum peers (potential_followers s.current_ballot rs + 1) || larger_happy s.current_ballot rs
    else leader_happy s.leader rs

abbrev pub update_happiness : ℕ → List HeartbeatReply → Standing → Standing
update_happiness peers rs s = standing s.current_ballot s.leader (is_happy peers rs s)

-- `check_takeover`: past the leader's number
abbrev pub numbered : ℕ → Ballot → Ballot
numbered n b = record { config_id = b.config_id; n = n; priority = b.priority; pid = b.pid }

unfoldable pub takeover_due : ℕ → List HeartbeatReply → Standing → Bool
takeover_due peers rs s =
    not s.happy && (not (any_happy rs) && quorum peers (length rs + 1))

abbrev pub taken_over : Standing → Standing
taken_over s = let mine = numbered (s.leader.n + 1) s.current_ballot in standing mine mine true

abbrev pub check_takeover : ℕ → List HeartbeatReply → Standing → Standing
check_takeover peers rs s = if takeover_due peers rs s then taken_over s else s

-- the promise of Sequence Paxos, at the timeout's end
unfoldable pub promised : ℕ → Ballot → Standing → Standing
promised pid p s =
    if above p s.leader then standing (if eqb p.pid pid then p else s.current_ballot) p true else s

-- whom a timeout replies
abbrev pub leading : Standing → Option Ballot
leading s = if leads s then some s.current_ballot else none

-- `new_hb_round`
abbrev pub request : ℕ → ℕ → ℕ → BLEMessage
request pid round to = record {
  from = pid;
  to = to;
  is_reply = false;
  reply = record { round = round; ballot = no_ballot; leader = no_ballot; happy = false };
}

abbrev pub new_round : Election → Election
new_round x = record {
  configuration_id = x.configuration_id;
  pid = x.pid;
  peers = x.peers;
  round = x.round + 1;
  replies = [];
  prev_replies = x.replies;
  standing = x.standing;
  outgoing = x.outgoing ++ map (request x.pid (x.round + 1)) x.peers;
}

abbrev pub with_standing : Standing → Election → Election
with_standing s x = record {
  configuration_id = x.configuration_id;
  pid = x.pid;
  peers = x.peers;
  round = x.round;
  replies = x.replies;
  prev_replies = x.prev_replies;
  standing = s;
  outgoing = x.outgoing;
}

-- `hb_timeout` "with its order (leader, happiness, takeover, new round, promise)"
abbrev pub leader_step : Election → Election
leader_step x = with_standing (update_leader x.replies x.standing) x

abbrev pub happiness_step : Election → Election
happiness_step x = with_standing (update_happiness (length x.peers) x.replies x.standing) x

abbrev pub takeover_step : Election → Election
takeover_step x = with_standing (check_takeover (length x.peers) x.replies x.standing) x

abbrev pub promise_step : Ballot → Election → Election
promise_step p x = with_standing (promised x.pid p x.standing) x

abbrev pub timed_out : Ballot → Election → Election
timed_out p x = promise_step p (new_round (takeover_step (happiness_step (leader_step x))))

-- `handle_request`
abbrev pub reply_from : Election → ℕ → ℕ → BLEMessage
reply_from x to round = record {
  from = x.pid;
  to = to;
  is_reply = true;
  reply = record {
    round = round;
    ballot = x.standing.current_ballot;
    leader = x.standing.leader;
    happy = x.standing.happy;
  };
}

abbrev pub sending : List BLEMessage → Election → Election
sending ms x = record {
  configuration_id = x.configuration_id;
  pid = x.pid;
  peers = x.peers;
  round = x.round;
  replies = x.replies;
  prev_replies = x.prev_replies;
  standing = x.standing;
  outgoing = ms;
}

abbrev pub requested : ℕ → ℕ → Election → Election
requested from round x = sending (x.outgoing ++ reply_from x from round ∷ []) x

-- `handle_reply`: "repeated replies count twice"
abbrev pub ours : HeartbeatReply → Election → Bool
ours r x = eqb r.round x.round && eqb r.ballot.config_id x.configuration_id

abbrev pub keeping : List HeartbeatReply → Election → Election
keeping rs x = record {
  configuration_id = x.configuration_id;
  pid = x.pid;
  peers = x.peers;
  round = x.round;
  replies = rs;
  prev_replies = x.prev_replies;
  standing = x.standing;
  outgoing = x.outgoing;
}

abbrev pub replying : HeartbeatReply → Election → Election
replying r x = if ours r x then keeping (x.replies ++ r ∷ []) x else x

-- `set_priority`
abbrev pub of_priority : ℕ → Ballot → Ballot
of_priority p b = record { config_id = b.config_id; n = b.n; priority = p; pid = b.pid }

abbrev pub prioritized : ℕ → Election → Election
prioritized p x =
    let s = x.standing in with_standing (standing (of_priority p s.current_ballot) s.leader s.happy) x

-- `with`: the round begins at 0, and the first is begun; "a recovered node starts at n = 0", and one that recovered the
-- default ballot is not recovered
abbrev pub first_ballot : ℕ → BLEConfig → Ballot
first_ballot n c = record { config_id = c.configuration_id; n = n; priority = c.priority; pid = c.pid }

unfoldable pub starting_at : BLEConfig → Option Ballot → Standing
starting_at c none = standing (first_ballot 1 c) (first_ballot 1 c) true
starting_at c (some b) =
    if same_ballot b no_ballot then standing (first_ballot 1 c) (first_ballot 1 c) true
    else standing (first_ballot 0 c) b true

abbrev pub initial : BLEConfig → List ℕ → Option Ballot → Election
initial c ps b = record {
  configuration_id = c.configuration_id;
  pid = c.pid;
  peers = ps;
  round = 0;
  replies = [];
  prev_replies = [];
  standing = starting_at c b;
  outgoing = [];
}
