-- A node's state: the fields of document 003, its lists as lists. How the code lays it out, and when it is well formed.
use Rattle.std.specs.Prelude.{ℕ, Bool, false, ◌&&◌, not, List, [], leb, eqb, length, take, drop}
use Rattle.std.specs.List.{list_all}
use Rattle.words.specs.Words.{padded}
use Rattle.entry.specs.Limits.{most_peers, most_replies, most_outgoing}
use Rattle.entry.specs.Order.{same_ballot, no_ballot}
use Rattle.ballot_leader_election.specs.declared.HeartbeatReply.{HeartbeatReply}
use Rattle.ballot_leader_election.specs.declared.BLEMessage.{BLEMessage}
use Rattle.ballot_leader_election.specs.declared.Peers.{Peers}
use Rattle.ballot_leader_election.specs.declared.Replies.{Replies}
use Rattle.ballot_leader_election.specs.declared.Outgoing.{Outgoing}
use Rattle.ballot_leader_election.specs.declared.BallotLeaderElection.{BallotLeaderElection}
use Rattle.ballot_leader_election.specs.declared.steps.Standing.{Standing}

-- the own ballot, the leader and happiness, which only a timeout's steps and a new priority change, are one part
pub record Election : Type 0 where
  pub configuration_id : ℕ
  pub pid : ℕ
  pub peers : List ℕ
  pub round : ℕ
  pub replies : List HeartbeatReply
  pub prev_replies : List HeartbeatReply
  pub standing : Standing
  pub outgoing : List BLEMessage

-- what holds nothing
abbrev pub no_reply : HeartbeatReply
no_reply = record { round = 0; ballot = no_ballot; leader = no_ballot; happy = false }

abbrev pub no_message : BLEMessage
no_message = record { from = 0; to = 0; is_reply = false; reply = no_reply }

abbrev pub pid_blank : ℕ → Bool
pid_blank p = eqb p 0

abbrev pub reply_blank : HeartbeatReply → Bool
reply_blank r =
    eqb r.round 0 && (same_ballot r.ballot no_ballot && (same_ballot r.leader no_ballot && not r.happy))

abbrev pub message_blank : BLEMessage → Bool
message_blank m = eqb m.from 0 && (eqb m.to 0 && (not m.is_reply && reply_blank m.reply))

-- a list as the code has it, by its count and its elements, and back
abbrev pub peers_in : Peers → List ℕ
peers_in l = take l.count l.held

abbrev pub replies_in : Replies → List HeartbeatReply
replies_in l = take l.count l.held

abbrev pub messages_in : Outgoing → List BLEMessage
messages_in l = take l.count l.held

abbrev pub laid_peers : List ℕ → Peers
laid_peers ps = record { count = length ps; held = padded 0 most_peers ps }

abbrev pub laid_replies : List HeartbeatReply → Replies
laid_replies rs = record { count = length rs; held = padded no_reply most_replies rs }

abbrev pub laid_messages : List BLEMessage → Outgoing
laid_messages ms = record { count = length ms; held = padded no_message most_outgoing ms }

-- and so the state
abbrev pub standing_in : BallotLeaderElection → Standing
standing_in e = record { current_ballot = e.current_ballot; leader = e.leader; happy = e.happy }

abbrev pub election_of : BallotLeaderElection → Election
election_of e = record {
  configuration_id = e.configuration_id;
  pid = e.pid;
  peers = peers_in e.peers;
  round = e.hb_round;
  replies = replies_in e.heartbeat_replies;
  prev_replies = replies_in e.prev_replies;
  standing = standing_in e;
  outgoing = messages_in e.outgoing;
}

abbrev pub laid_election : Election → BallotLeaderElection
laid_election x = record {
  configuration_id = x.configuration_id;
  pid = x.pid;
  peers = laid_peers x.peers;
  hb_round = x.round;
  heartbeat_replies = laid_replies x.replies;
  prev_replies = laid_replies x.prev_replies;
  current_ballot = x.standing.current_ballot;
  leader = x.standing.leader;
  happy = x.standing.happy;
  outgoing = laid_messages x.outgoing;
}

-- a list in form: no more elements than its array has, and blanks after them. The array's length is the struct's own.
unfoldable pub list_formed : {A : Type 0} → (A → Bool) → ℕ → ℕ → List A → Bool
list_formed blank room n xs = eqb (length xs) room && (leb n room && list_all blank (drop n xs))

-- "A state whose own n is above the leader's isn't well formed"; "At most 6 peers, 16 replies a round, 32 outgoing
-- messages"; 003: a pid "Must not be 0"
unfoldable pub formed : BallotLeaderElection → Bool
formed e =
    leb e.current_ballot.n e.leader.n
    && (not (eqb e.pid 0)
    && (list_formed pid_blank most_peers e.peers.count e.peers.held
    && (list_formed reply_blank most_replies e.heartbeat_replies.count e.heartbeat_replies.held
    && (list_formed reply_blank most_replies e.prev_replies.count e.prev_replies.held
    && list_formed message_blank most_outgoing e.outgoing.count e.outgoing.held))))

-- no state at all, beside a refusal of one that was to start
abbrev pub no_election : BallotLeaderElection
no_election = record {
  configuration_id = 0;
  pid = 0;
  peers = laid_peers [];
  hb_round = 0;
  heartbeat_replies = laid_replies [];
  prev_replies = laid_replies [];
  current_ballot = no_ballot;
  leader = no_ballot;
  happy = false;
  outgoing = laid_messages [];
}
