-- The first refusal of each call, from the numbers that the code tests.
use Rattle.words.proofs.Prelude.{arith, ◌≡◌, refl, sym, ap, ap₂, ℕ, ◌+◌, ◌≤◌, ◌<◌, Bool, true, false, ◌&&◌}
use Rattle.words.proofs.Prelude.{ltb, lt-ltb, le-ltb, if◌then◌else◌, [], ◌∷◌, ◌++◌, length}
use Rattle.entry.specs.Limits.{most_replies, most_outgoing}
use Rattle.entry.specs.Guards.{passes, refuses, first}
use Rattle.entry.proofs.GuardLaws.{found, stopping, passing, clear_all}
use Rattle.ballot_leader_election.specs.declared.HeartbeatReply.{HeartbeatReply}
use Rattle.ballot_leader_election.specs.declared.BallotLeaderElection.{BallotLeaderElection}
use Rattle.ballot_leader_election.specs.State.{peers_in, replies_in, messages_in, election_of}
use Rattle.ballot_leader_election.specs.Steps.{ours, keeping, replying}
use Rattle.ballot_leader_election.specs.Calls.{request_guards, reply_guards}
use Rattle.ballot_leader_election.specs.Inner.{Formed}
use Rattle.ballot_leader_election.proofs.Laying.{held_length}

module _ (e : BallotLeaderElection) (f : Formed e) where
  abbrev out : ℕ
  out = length (messages_in e.outgoing)

  -- room for so many messages more
  is_short : (n : ℕ) → most_outgoing < e.outgoing.count + n → ltb most_outgoing (out + n) ≡ true
  is_short n h = lt-ltb most_outgoing (out + n) (omega (arith, held_length f.outgoing, h))

  has_room : (n : ℕ) → e.outgoing.count + n ≤ most_outgoing → ltb most_outgoing (out + n) ≡ false
  has_room n h = le-ltb most_outgoing (out + n) (omega (arith, held_length f.outgoing, h))

  pub request_short : most_outgoing ≤ e.outgoing.count → refuses 18 0 ≡ first (request_guards (election_of e))
  request_short h = found (stopping (is_short 1 (omega (arith, h))) refl)

  pub request_stands : e.outgoing.count < most_outgoing → passes ≡ first (request_guards (election_of e))
  request_stands h = found (passing (has_room 1 (omega (arith, h))) clear_all)

  module _ (r : HeartbeatReply) where
    abbrev held : ℕ
    held = length (replies_in e.heartbeat_replies)

    pub other : ours r (election_of e) ≡ false → election_of e ≡ replying r (election_of e)
    other h = ap (λ (b : Bool). if b then keeping ((election_of e).replies ++ r ∷ []) (election_of e) else election_of e) (sym h)

    pub kept : ours r (election_of e) ≡ true
        → keeping ((election_of e).replies ++ r ∷ []) (election_of e) ≡ replying r (election_of e)
    kept h = ap (λ (b : Bool). if b then keeping ((election_of e).replies ++ r ∷ []) (election_of e) else election_of e) (sym h)

    pub reply_other : ours r (election_of e) ≡ false → passes ≡ first (reply_guards r (election_of e))
    reply_other h = found (passing (ap (λ (b : Bool). b && ltb most_replies (held + 1)) h) clear_all)

    pub reply_full : ours r (election_of e) ≡ true → most_replies ≤ e.heartbeat_replies.count
        → refuses 20 0 ≡ first (reply_guards r (election_of e))
    reply_full h k =
        found (stopping (ap₂ ◌&&◌ h (lt-ltb most_replies (held + 1) (omega (arith, held_length f.replies, k)))) refl)

    pub reply_kept : ours r (election_of e) ≡ true → e.heartbeat_replies.count < most_replies
        → passes ≡ first (reply_guards r (election_of e))
    reply_kept h k =
        found (passing (ap₂ ◌&&◌ h (le-ltb most_replies (held + 1) (omega (arith, held_length f.replies, k)))) clear_all)

  -- the requests of a round
  abbrev needed : ℕ
  needed = length (peers_in e.peers)

  pub round_short : most_outgoing < e.outgoing.count + e.peers.count → ltb most_outgoing (out + needed) ≡ true
  round_short h = is_short needed (omega (arith, held_length f.peers, h))

  pub round_room : e.outgoing.count + e.peers.count ≤ most_outgoing → ltb most_outgoing (out + needed) ≡ false
  round_room h = has_room needed (omega (arith, held_length f.peers, h))
