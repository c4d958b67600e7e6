-- Elections computed in the logic, each where a hurried reader of document 003 would err.
use Rattle.words.proofs.Prelude.{◌≡◌, refl, ℕ, Bool, true, false, none, some, List, [], ◌∷◌, map}
use Rattle.std.specs.Prelude.{Some}
use Rattle.entry.specs.Order.{no_ballot}
use Rattle.entry.specs.declared.Ballot.{Ballot}
use Rattle.ballot_leader_election.specs.declared.HeartbeatReply.{HeartbeatReply}
use Rattle.ballot_leader_election.specs.declared.BLEConfig.{BLEConfig}
use Rattle.ballot_leader_election.specs.State.{Election}
use Rattle.ballot_leader_election.specs.Steps.{quorum, above, max_ballot, update_leader, potential_followers}
use Rattle.ballot_leader_election.specs.Steps.{is_happy, takeover_due, promised}
use Rattle.ballot_leader_election.specs.Steps.{standing, leading, timed_out, starting_at}

abbrev ballot : ℕ → ℕ → ℕ → ℕ → Ballot
ballot c n p i = record { config_id = c; n = n; priority = p; pid = i }

abbrev from : Ballot → Ballot → Bool → HeartbeatReply
from b l h = record { round = 1; ballot = b; leader = l; happy = h }

abbrev node : ℕ → BLEConfig
node i = record { configuration_id = 1; pid = i; priority = 0 }

-- of five nodes, one that leads and has one follower's reply: happy where it came twice, and not where it came once
abbrev led : HeartbeatReply
led = from (ballot 1 1 0 2) (ballot 1 1 0 2) true

abbrev mine : Ballot
mine = ballot 1 1 0 5

pub repeated_reply : map (λ (rs : List HeartbeatReply). is_happy 4 rs (standing mine mine true))
    ((led ∷ led ∷ []) ∷ (led ∷ []) ∷ [])
    ≡ true ∷ false ∷ []
unfolding is_happy quorum potential_followers above
repeated_reply = refl

-- `max()` takes the last of equal ones, and an equal ballot of another configuration does not move the leader, but is
-- not the leader's
abbrev other : Ballot
other = ballot 2 1 0 5

pub equal_ballots : (max_ballot (from mine mine true ∷ from other mine true ∷ []) ≡ Some other)
    × ((update_leader (from other mine true ∷ []) (standing mine mine true) ≡ standing mine mine true)
    × (leading (standing mine other true) ≡ none))
unfolding update_leader above
equal_ballots = (refl, (refl, refl))

-- a node that recovers the default ballot starts as a new one, and any other at n = 0
pub recovered : (starting_at (node 5) (some no_ballot) ≡ starting_at (node 5) none)
    × ((starting_at (node 5) none ≡ standing mine mine true)
    × (starting_at (node 5) (some other) ≡ standing (ballot 1 0 0 5) other true))
unfolding starting_at
recovered = (refl, (refl, refl))

-- the timeout of node 1 of three, whose leader, node 3, is gone, and whose other peer is unhappy too. It was happy: so it
-- takes over only since happiness comes before the takeover, and with n = 8, past the leader's 7, not its own 1
abbrev left : Election
left = record {
  configuration_id = 1;
  pid = 1;
  peers = 2 ∷ 3 ∷ [];
  round = 4;
  replies = from (ballot 1 2 0 2) (ballot 1 7 0 3) false ∷ [];
  prev_replies = [];
  standing = standing (ballot 1 1 0 1) (ballot 1 7 0 3) true;
  outgoing = [];
}

pub takeover : (timed_out no_ballot left).standing ≡ standing (ballot 1 8 0 1) (ballot 1 8 0 1) true
unfolding update_leader is_happy takeover_due promised quorum above
takeover = refl

-- the same with a promise: of another pid it is the leader, and of its own it is its ballot too; one that is not above
-- the leader changes nothing
pub promise_above : map (λ (p : Ballot). (timed_out p left).standing)
    (ballot 1 9 0 2 ∷ ballot 1 9 0 1 ∷ ballot 1 8 0 1 ∷ [])
    ≡ standing (ballot 1 8 0 1) (ballot 1 9 0 2) true
    ∷ standing (ballot 1 9 0 1) (ballot 1 9 0 1) true
    ∷ standing (ballot 1 8 0 1) (ballot 1 8 0 1) true
    ∷ []
unfolding update_leader is_happy takeover_due promised quorum above
promise_above = refl
