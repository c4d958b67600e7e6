-- States as the code lays them out: a list and one element more, requests to each peer, and a state whose parts are
-- laid out.
use Rattle.words.proofs.Prelude.{arith, ◌≡◌, refl, sym, ap, ap₂, ◌∙◌, ℕ, suc, ◌+◌, ◌≤◌, ◌<◌, add-one, List, []}
use Rattle.words.proofs.Prelude.{◌∷◌, append-nil, append_assoc, ◌++◌, map, length-append, length-map, length-take-le}
use Rattle.words.proofs.Prelude.{length, take, get_or, take_all}
use mathlib.Core.List.{map-append}
use Rattle.std.proofs.Common.{set}
use lib.Seq.{take-suc}
use Rattle.words.proofs.Laws.{length-padded, padded_more, take_padded}
use Rattle.entry.specs.Limits.{most_peers, most_replies, most_outgoing}
use Rattle.ballot_leader_election.specs.declared.HeartbeatReply.{HeartbeatReply}
use Rattle.ballot_leader_election.specs.declared.BLEMessage.{BLEMessage}
use Rattle.ballot_leader_election.specs.declared.Peers.{Peers}
use Rattle.ballot_leader_election.specs.declared.Replies.{Replies}
use Rattle.ballot_leader_election.specs.declared.Outgoing.{Outgoing}
use Rattle.ballot_leader_election.specs.declared.BallotLeaderElection.{BallotLeaderElection}
use Rattle.ballot_leader_election.specs.declared.steps.Standing.{Standing}
use Rattle.ballot_leader_election.specs.State.{Election, no_reply, no_message, peers_in, replies_in, messages_in}
use Rattle.ballot_leader_election.specs.State.{laid_peers, laid_replies, laid_messages, standing_in, election_of, laid_election}
use Rattle.ballot_leader_election.specs.Steps.{request}
use Rattle.ballot_leader_election.specs.Inner.{Held, PeersHeld, RepliesHeld, MessagesHeld, Formed, Listed}

-- the first n elements are n
pub held_length : {A : Type 0} {blank : A} {room n : ℕ} {xs : List A} → Held blank room n xs → length (take n xs) ≡ n
held_length {n = n} {xs = xs} h = length-take-le n xs (omega (arith, h.long, h.few))

-- a list in form is what is laid out of its elements
pub back_peers : (l : Peers) → PeersHeld l → laid_peers (peers_in l) ≡ l
back_peers l h =
    let count = held_length h in
    let held = h.rest in
    λ t. record { count = count t; held = sym held t }

pub back_replies : (l : Replies) → RepliesHeld l → laid_replies (replies_in l) ≡ l
back_replies l h =
    let count = held_length h in
    let held = h.rest in
    λ t. record { count = count t; held = sym held t }

pub back_messages : (l : Outgoing) → MessagesHeld l → laid_messages (messages_in l) ≡ l
back_messages l h =
    let count = held_length h in
    let held = h.rest in
    λ t. record { count = count t; held = sym held t }

-- one element more, as the code puts it there
abbrev pub sent_to : Outgoing → BLEMessage → Outgoing
sent_to l m = record { count = l.count + 1; held = set l.held l.count m }

abbrev pub kept_in : Replies → HeartbeatReply → Replies
kept_in l r = record { count = l.count + 1; held = set l.held l.count r }

more_length : {A : Type 0} (xs : List A) (x : A) → length xs + 1 ≡ length (xs ++ x ∷ [])
more_length xs x = simp length-append refl

pub sent_more : (ms : List BLEMessage) (m : BLEMessage) → length ms < most_outgoing
    → sent_to (laid_messages ms) m ≡ laid_messages (ms ++ m ∷ [])
sent_more ms m h =
    let count = more_length ms m in
    let held = padded_more no_message most_outgoing ms m h in
    λ t. record { count = count t; held = held t }

pub kept_more : (rs : List HeartbeatReply) (r : HeartbeatReply) → length rs < most_replies
    → kept_in (laid_replies rs) r ≡ laid_replies (rs ++ r ∷ [])
kept_more rs r h =
    let count = more_length rs r in
    let held = padded_more no_reply most_replies rs r h in
    λ t. record { count = count t; held = held t }

-- the same of lists in form
pub sent_laid : (l : Outgoing) (m : BLEMessage) → MessagesHeld l → l.count < most_outgoing
    → sent_to l m ≡ laid_messages (messages_in l ++ m ∷ [])
sent_laid l m h room =
    ap (λ (o : Outgoing). sent_to o m) (sym (back_messages l h))
    ∙ sent_more (messages_in l) m (omega (arith, held_length h, room))

pub kept_laid : (l : Replies) (r : HeartbeatReply) → RepliesHeld l → l.count < most_replies
    → kept_in l r ≡ laid_replies (replies_in l ++ r ∷ [])
kept_laid l r h room =
    ap (λ (o : Replies). kept_in o r) (sym (back_replies l h))
    ∙ kept_more (replies_in l) r (omega (arith, held_length h, room))

-- requests to the first i peers, after the messages that are held
abbrev pub requested : Peers → Outgoing → ℕ → ℕ → ℕ → List BLEMessage
requested ps ms from round i = messages_in ms ++ map (request from round) (take i (peers_in ps))

module _ (ps : Peers) (ms : Outgoing) (from round : ℕ) (h : Listed ps ms) where
  abbrev requests : ℕ → List BLEMessage
  requests i = requested ps ms from round i

  pub requests_length : (i : ℕ) → i ≤ ps.count → length (requests i) ≡ ms.count + i
  requests_length i k =
      length-append (messages_in ms) _
      ∙ ap₂ ◌+◌ (held_length h.outgoing)
      (length-map (take i (peers_in ps)) (request from round) ∙ length-take-le i (peers_in ps) (omega (arith, held_length h.peers, k)))

  requests_few : (i : ℕ) → i < length (peers_in ps) → length (requests i) < most_outgoing
  requests_few i k =
      let e : length (requests i) ≡ ms.count + i = requests_length i (omega (arith, k, held_length h.peers)) in
      omega (arith, e, k, held_length h.peers, h.room)

  pub none_yet : ms ≡ laid_messages (requests 0)
  none_yet =
      sym (back_messages ms h.outgoing) ∙ ap laid_messages (sym (append-nil (messages_in ms)))

  pub all_sent : (i : ℕ) (sent : Outgoing) → length (peers_in ps) ≤ i → sent ≡ laid_messages (requests i)
      → sent ≡ laid_messages (messages_in ms ++ map (request from round) (peers_in ps))
  all_sent i sent k e =
      e ∙ ap (λ (l : List ℕ). laid_messages (messages_in ms ++ map (request from round) l)) (take_all i (peers_in ps) k)

  module _ (i : ℕ) (sent : Outgoing) (k : i < length (peers_in ps)) (e : sent ≡ laid_messages (requests i)) where
    pub room_left : sent.count < length sent.held
    room_left =
        let n : sent.count ≡ length (requests i) = ap (λ (o : Outgoing). o.count) e in
        let l : length sent.held ≡ most_outgoing = ap (λ (o : Outgoing). length o.held) e
        ∙ length-padded no_message most_outgoing (requests i) (omega (arith, requests_few i k)) in
        omega (arith, n, l, requests_few i k)

    pub request_sent : sent_to sent (request from round (get_or (peers_in ps) i 0)) ≡ laid_messages (requests (i + 1))
    request_sent =
        let p = get_or (peers_in ps) i 0 in
        let l = peers_in ps in
        let taken : take (suc i) l ≡ take i l ++ p ∷ [] = take-suc l i 0 k in
        ap (λ (o : Outgoing). sent_to o (request from round p)) e
        ∙ sent_more (requests i) (request from round p) (requests_few i k)
        ∙ ap laid_messages (append_assoc (messages_in ms) _ _)
        ∙ ap (λ (x : List BLEMessage). laid_messages (messages_in ms ++ x))
        (sym (map-append (request from round) (take i l) (p ∷ []))
        ∙ ap (map (request from round)) (sym taken ∙ ap (λ (k : ℕ). take k l) (sym (add-one i))))

-- a state with these parts, and the configuration and peers of another: as it is, and as it is laid out
abbrev pub parts : ℕ → Replies → Replies → Standing → Outgoing → BallotLeaderElection → BallotLeaderElection
parts n rs ps s ms e = record {
  configuration_id = e.configuration_id;
  pid = e.pid;
  peers = e.peers;
  hb_round = n;
  heartbeat_replies = rs;
  prev_replies = ps;
  current_ballot = s.current_ballot;
  leader = s.leader;
  happy = s.happy;
  outgoing = ms;
}

abbrev pub parts_of : ℕ → List HeartbeatReply → List HeartbeatReply → Standing → List BLEMessage → BallotLeaderElection
    → Election
parts_of n rs ps s ms e = record {
  configuration_id = e.configuration_id;
  pid = e.pid;
  peers = peers_in e.peers;
  round = n;
  replies = rs;
  prev_replies = ps;
  standing = s;
  outgoing = ms;
}

pub laid_parts : (e : BallotLeaderElection) → PeersHeld e.peers → (n : ℕ) (rs ps : Replies)
    (qs os : List HeartbeatReply) (s : Standing) (ms : Outgoing) (ns : List BLEMessage)
    → rs ≡ laid_replies qs → ps ≡ laid_replies os → ms ≡ laid_messages ns
    → parts n rs ps s ms e ≡ laid_election (parts_of n qs os s ns e)
laid_parts e h n rs ps qs os s ms ns p q r =
    let peers = back_peers e.peers h in
    λ t. record {
      configuration_id = e.configuration_id;
      pid = e.pid;
      peers = sym peers t;
      hb_round = n;
      heartbeat_replies = p t;
      prev_replies = q t;
      current_ballot = s.current_ballot;
      leader = s.leader;
      happy = s.happy;
      outgoing = r t;
    }

pub laid_back : (e : BallotLeaderElection) → Formed e → e ≡ laid_election (election_of e)
laid_back e f =
    laid_parts e f.peers e.hb_round e.heartbeat_replies e.prev_replies
    (replies_in e.heartbeat_replies) (replies_in e.prev_replies) (standing_in e) e.outgoing
    (messages_in e.outgoing) (sym (back_replies e.heartbeat_replies f.replies))
    (sym (back_replies e.prev_replies f.prev)) (sym (back_messages e.outgoing f.outgoing))

-- and back: what is laid out stands for what it was made of
pub model_back : (x : Election) → election_of (laid_election x) ≡ x
model_back x =
    let peers = take_padded 0 most_peers x.peers in
    let replies = take_padded no_reply most_replies x.replies in
    let prev = take_padded no_reply most_replies x.prev_replies in
    let outgoing = take_padded no_message most_outgoing x.outgoing in
    λ t. record {
      configuration_id = x.configuration_id;
      pid = x.pid;
      peers = peers t;
      round = x.round;
      replies = replies t;
      prev_replies = prev t;
      standing = x.standing;
      outgoing = outgoing t;
    }
