-- A state is sound if it is well formed once it is laid out, and every call leaves a sound state sound.
use Rattle.words.proofs.Prelude.{arith, ◌≡◌, refl, ap, ◌∙◌, ℕ, ◌+◌, ◌≤◌, Bool, true, false, ◌&&◌, ◌||◌, eqb, ltb}
use Rattle.words.proofs.Prelude.{eqb-false, ltb-false, le-ltb, if◌then◌else◌, Option, none, some, List, [], ◌∷◌, ◌++◌, length-map}
use Rattle.words.proofs.Prelude.{length-append, length}
use Rattle.words.proofs.Tests.{either, or_left, or_right}
use Rattle.entry.specs.{Limits.most_peers, Limits.most_replies, Limits.most_outgoing, Order.same_ballot, Order.no_ballot}
use Rattle.entry.specs.{Guards.refused, Guards.replied, declared.Ballot.Ballot}
use Rattle.entry.proofs.GuardLaws.{Passed}
use Rattle.ballot_leader_election.specs.declared.HeartbeatReply.{HeartbeatReply}
use Rattle.ballot_leader_election.specs.declared.BLEMessage.{BLEMessage}
use Rattle.ballot_leader_election.specs.declared.BLEConfig.{BLEConfig}
use Rattle.ballot_leader_election.specs.declared.BallotLeaderElection.{BallotLeaderElection}
use Rattle.ballot_leader_election.specs.declared.steps.Standing.{Standing}
use Rattle.ballot_leader_election.specs.State.{Election, no_reply, no_message, pid_blank, reply_blank, message_blank}
use Rattle.ballot_leader_election.specs.State.{election_of, laid_election, formed, no_election}
use Rattle.ballot_leader_election.specs.Steps.{first_ballot, starting_at, initial, standing, new_round, with_standing}
use Rattle.ballot_leader_election.specs.Steps.{timed_out, reply_from, sending, requested, ours, keeping, replying}
use Rattle.ballot_leader_election.specs.Steps.{prioritized}
use Rattle.ballot_leader_election.specs.Calls.{Call, set_priority, outgoing_mut, handle, new_hb_round, hb_timeout}
use Rattle.ballot_leader_election.specs.Calls.{get_current_ballot, get_ballots, Reply, request_guards, reply_guards, guards}
use Rattle.ballot_leader_election.specs.Calls.{effect}
use Rattle.ballot_leader_election.specs.Run.{Outcome, outcome, run, with_call}
use Rattle.ballot_leader_election.specs.Inner.{Begins}
use Rattle.ballot_leader_election.proofs.Forming.{padded_formed, all_formed, formed_facts}
use Rattle.ballot_leader_election.proofs.Laying.{held_length}
use Rattle.ballot_leader_election.proofs.Rising.{Behind, timeout_onward}
use Rattle.ballot_leader_election.proofs.Ending.{Ends, stops, stands, ends}

pub record Sound (x : Election) : Type 0 where
  pub number : Behind x.standing
  pub named : x.pid ≡ 0 → ⊥
  pub peers : length x.peers ≤ most_peers
  pub replies : length x.replies ≤ most_replies
  pub prev : length x.prev_replies ≤ most_replies
  pub outgoing : length x.outgoing ≤ most_outgoing

pub sound_formed : (x : Election) → Sound x → formed (laid_election x) ≡ true
sound_formed x s =
    all_formed (laid_election x) s.number s.named
    (padded_formed pid_blank 0 most_peers x.peers refl s.peers)
    (padded_formed reply_blank no_reply most_replies x.replies refl s.replies)
    (padded_formed reply_blank no_reply most_replies x.prev_replies refl s.prev)
    (padded_formed message_blank no_message most_outgoing x.outgoing refl s.outgoing)

-- a node that starts
starts_behind : (c : BLEConfig) (b : Option Ballot) → Behind (starting_at c b)
unfolding starting_at
starts_behind c none = omega arith
starts_behind c (some b) =
    either Behind (same_ballot b no_ballot) (standing (first_ballot 1 c) (first_ballot 1 c) true)
    (standing (first_ballot 0 c) b true) (λ e. omega arith) (λ e. omega arith)

module _ (c : BLEConfig) (ps : List ℕ) (b : Option Ballot) (named : c.pid ≡ 0 → ⊥) (few : length ps ≤ most_peers) where
  pub initial_sound : Sound (initial c ps b)
  initial_sound = record {
    number = starts_behind c b;
    named = named;
    peers = few;
    replies = omega arith;
    prev = omega arith;
    outgoing = omega arith;
  }

  pub initial_begins : Begins (laid_election (initial c ps b))
  initial_begins = record {
    formed = formed_facts (laid_election (initial c ps b)) (sound_formed (initial c ps b) initial_sound);
    room = omega (arith, few);
    round = omega arith;
  }

-- every call on a sound state, where none of its refusals applies
module _ (x : Election) (s : Sound x) where
  -- one that changes the lists alone
  sending_sound : (ms : List BLEMessage) → length ms ≤ most_outgoing → Sound (sending ms x)
  sending_sound ms h = record {
    number = s.number;
    named = s.named;
    peers = s.peers;
    replies = s.replies;
    prev = s.prev;
    outgoing = h;
  }

  keeping_sound : (rs : List HeartbeatReply) → length rs ≤ most_replies → Sound (keeping rs x)
  keeping_sound rs h = record {
    number = s.number;
    named = s.named;
    peers = s.peers;
    replies = h;
    prev = s.prev;
    outgoing = s.outgoing;
  }

  standing_sound : (t : Standing) → Behind t → Sound (with_standing t x)
  standing_sound t h = record {
    number = h;
    named = s.named;
    peers = s.peers;
    replies = s.replies;
    prev = s.prev;
    outgoing = s.outgoing;
  }

  -- a round begun, with another standing
  round_sound : (t : Standing) → Behind t → ltb most_outgoing (length x.outgoing + length x.peers) ≡ false
      → Sound (with_standing t (new_round x))
  round_sound t h room = record {
    number = h;
    named = s.named;
    peers = s.peers;
    replies = omega arith;
    prev = s.replies;
    outgoing = simp (length-append, length-map) (ltb-false _ _ room);
  }

  more : {A : Type 0} (xs : List A) (y : A) (n : ℕ) → ltb n (length xs + 1) ≡ false → length (xs ++ y ∷ []) ≤ n
  more xs y n h = simp length-append (ltb-false n (length xs + 1) h)

  reply_sound : (r : HeartbeatReply) → Passed (reply_guards r x) → Sound (replying r x)
  reply_sound r p = go (ours r x) p.0
    where
      go : (b : Bool) → (b && ltb most_replies (length x.replies + 1)) ≡ false
          → Sound (if b then keeping (x.replies ++ r ∷ []) x else x)
      go true h = keeping_sound (x.replies ++ r ∷ []) (more x.replies r most_replies h)
      go false h = s

  pub effect_sound : (c : Call) → Passed (guards c x) → Sound (effect c x)
  effect_sound (set_priority p) h = standing_sound (prioritized p x).standing s.number
  effect_sound outgoing_mut h = sending_sound [] (omega arith)
  effect_sound (handle m) h = go m.is_reply h
    where
      go : (b : Bool) → Passed (if b then reply_guards m.reply x else request_guards x)
          → Sound (if b then replying m.reply x else requested m.from m.reply.round x)
      go true p = reply_sound m.reply p
      go false p =
          let y = reply_from x m.from m.reply.round in
          sending_sound (x.outgoing ++ y ∷ []) (more x.outgoing y most_outgoing p.0)
  effect_sound new_hb_round h = round_sound x.standing s.number h.0
  effect_sound (hb_timeout p) h =
      round_sound (timed_out p x).standing (timeout_onward x s.number p).behind h.0
  effect_sound get_current_ballot h = s
  effect_sound get_ballots h = s

-- a well-formed state stands for a sound one
pub formed_sound : (e : BallotLeaderElection) → formed e ≡ true → Sound (election_of e)
formed_sound e h =
    let f = formed_facts e h in
    record {
      number = f.number;
      named = f.named;
      peers = omega (arith, held_length f.peers, f.peers.few);
      replies = omega (arith, held_length f.replies, f.replies.few);
      prev = omega (arith, held_length f.prev, f.prev.few);
      outgoing = omega (arith, held_length f.outgoing, f.outgoing.few);
    }

-- every call, refused or not, keeps a state well formed
pub call_keeps : (c : Call) (e : BallotLeaderElection) → formed e ≡ true → formed (run c e).after ≡ true
call_keeps c e h = go (run c e) (ends c e)
  where
    go : (o : Outcome (Reply c)) → Ends c e o → formed o.after ≡ true
    go o (stops n k v q) = ap (λ (z : Outcome (Reply c)). formed z.after) q ∙ h
    go o (stands f p q) =
        ap (λ (z : Outcome (Reply c)). formed z.after) q
        ∙ sound_formed (effect c (election_of e)) (effect_sound (election_of e) (formed_sound e f) c p)

-- and so does any list of calls, from a node that has started
abbrev pub after : List Call → BallotLeaderElection → BallotLeaderElection
after [] e = e
after (c ∷ cs) e = after cs (run c e).after

pub calls_keep : (cs : List Call) (e : BallotLeaderElection) → formed e ≡ true → formed (after cs e) ≡ true
calls_keep [] e h = h
calls_keep (c ∷ cs) e h = calls_keep cs (run c e).after (call_keeps c e h)

-- a node that starts is well formed, and in round 1
module _ (c : BLEConfig) (ps : List ℕ) (b : Option Ballot) (h : (with_call c ps b).answer ≡ replied tt) where
  pub starts : (eqb c.pid 0 || ltb most_peers (length ps)) ≡ false
      × ((with_call c ps b).after ≡ laid_election (new_round (initial c ps b)))
  unfolding with_call
  starts = go (eqb c.pid 0 || ltb most_peers (length ps)) h
    where
      by : Bool → Outcome (Unit {0})
      by t = if t then outcome (refused 11 0) no_election else outcome (replied tt) (laid_election (new_round (initial c ps b)))

      go : (t : Bool) → (by t).answer ≡ replied tt
          → (t ≡ false) × ((by t).after ≡ laid_election (new_round (initial c ps b)))
      go true e = let z : ◌≡◌ {A = ℕ} 0 1 = cc in absurd (omega arith)
      go false e = (refl, refl)

  pub starts_formed : formed (with_call c ps b).after ≡ true
  starts_formed =
      let named = eqb-false c.pid 0 (or_left (eqb c.pid 0) _ starts.0) in
      let few = ltb-false most_peers (length ps) (or_right (eqb c.pid 0) _ starts.0) in
      let x = initial c ps b in
      let room = le-ltb most_outgoing (0 + length ps) (omega (arith, few)) in
      ap formed starts.1
      ∙ sound_formed (new_round x) (round_sound x (initial_sound c ps b named few) x.standing (starts_behind c b) room)

  pub starts_first : (with_call c ps b).after.hb_round ≡ 1
  starts_first = ap (λ (e : BallotLeaderElection). e.hb_round) starts.1
