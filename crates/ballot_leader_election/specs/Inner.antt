-- What the inner functions say: a state with another standing, and what is known of a well-formed one.
use Rattle.std.specs.Prelude.{ℕ, ◌+◌, ◌≤◌, ◌<◌, ◌≡◌, not, List, ◌∷◌, length, take}
use Rattle.words.specs.Words.{padded}
use Rattle.entry.specs.Limits.{most_peers, most_replies, most_outgoing, last_round}
use Rattle.entry.specs.Guards.{Guard, guard}
use Rattle.ballot_leader_election.specs.declared.Peers.{Peers}
use Rattle.ballot_leader_election.specs.declared.Replies.{Replies}
use Rattle.ballot_leader_election.specs.declared.Outgoing.{Outgoing}
use Rattle.ballot_leader_election.specs.declared.BallotLeaderElection.{BallotLeaderElection}
use Rattle.ballot_leader_election.specs.declared.steps.Standing.{Standing}
use Rattle.ballot_leader_election.specs.State.{Election, no_reply, no_message, formed}
use Rattle.ballot_leader_election.specs.Run.{Outcome, comes}

-- what a call comes to that tests the state first: 12 of any, then its own refusals
abbrev pub comes_formed : {A : Type 0} → List Guard → A → Election → BallotLeaderElection → Outcome A
comes_formed gs y next e = comes (guard 12 0 (not (formed e)) ∷ gs) y next e

abbrev pub with_standing : Standing → BallotLeaderElection → BallotLeaderElection
with_standing s e = record {
  configuration_id = e.configuration_id;
  pid = e.pid;
  peers = e.peers;
  hb_round = e.hb_round;
  heartbeat_replies = e.heartbeat_replies;
  prev_replies = e.prev_replies;
  current_ballot = s.current_ballot;
  leader = s.leader;
  happy = s.happy;
  outgoing = e.outgoing;
}

-- a list in form, as facts
pub record Held {A : Type 0} (blank : A) (room n : ℕ) (xs : List A) : Type 0 where
  pub long : length xs ≡ room
  pub few : n ≤ room
  pub rest : xs ≡ padded blank room (take n xs)

abbrev pub PeersHeld : Peers → Type 0
PeersHeld l = Held 0 most_peers l.count l.held

abbrev pub RepliesHeld : Replies → Type 0
RepliesHeld l = Held no_reply most_replies l.count l.held

abbrev pub MessagesHeld : Outgoing → Type 0
MessagesHeld l = Held no_message most_outgoing l.count l.held

-- a well-formed state, as facts
pub record Formed (e : BallotLeaderElection) : Type 0 where
  pub number : e.current_ballot.n ≤ e.leader.n
  pub named : e.pid ≡ 0 → ⊥
  pub peers : PeersHeld e.peers
  pub replies : RepliesHeld e.heartbeat_replies
  pub prev : RepliesHeld e.prev_replies
  pub outgoing : MessagesHeld e.outgoing

-- a list of messages that has room for one to each peer
pub record Listed (ps : Peers) (ms : Outgoing) : Type 0 where
  pub peers : PeersHeld ps
  pub outgoing : MessagesHeld ms
  pub room : ms.count + ps.count ≤ most_outgoing

-- a state in which a round can begin
pub record Begins (e : BallotLeaderElection) : Type 0 where
  pub formed : Formed e
  pub room : e.outgoing.count + e.peers.count ≤ most_outgoing
  pub round : e.hb_round < last_round
