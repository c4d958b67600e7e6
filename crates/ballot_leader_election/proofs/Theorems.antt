-- What holds of every call of the election, from any well-formed state.
use Rattle.words.proofs.Prelude.{arith, ◌≡◌, refl, sym, ap, ◌∙◌, ℕ, ◌<◌, Bool, true, false, true≢false, Option}
use Rattle.words.proofs.Prelude.{if◌then◌else◌, List, [], ◌∷◌, append_assoc, ◌++◌, map, length}
use Rattle.entry.specs.{Guards.Guard, Guards.refused, Guards.replied, declared.Ballot.Ballot}
use Rattle.ballot_leader_election.specs.declared.HeartbeatReply.{HeartbeatReply}
use Rattle.ballot_leader_election.specs.declared.BLEMessage.{BLEMessage}
use Rattle.ballot_leader_election.specs.declared.BallotLeaderElection.{BallotLeaderElection}
use Rattle.ballot_leader_election.specs.declared.steps.Standing.{Standing}
use Rattle.ballot_leader_election.specs.State.{Election, standing_in, election_of, formed}
use Rattle.ballot_leader_election.specs.Steps.{takeover_due, requested, ours, keeping, replying}
use Rattle.ballot_leader_election.specs.Calls.{Call, set_priority, outgoing_mut, handle, new_hb_round, hb_timeout}
use Rattle.ballot_leader_election.specs.Calls.{get_current_ballot, get_ballots, Reply, request_guards, reply_guards, effect}
use Rattle.ballot_leader_election.specs.Run.{Outcome, run}
use Rattle.ballot_leader_election.proofs.Rising.{Behind, stays, Onward, onward_trans, judged_of, timeout_onward}
use Rattle.ballot_leader_election.proofs.Rising.{takeover_rises}
use Rattle.ballot_leader_election.proofs.Ending.{Ends, stops, stands, ends, refusals}
use Rattle.ballot_leader_election.proofs.Keeping.{formed_sound, call_keeps, after}

-- a call leaves the leader and happiness
pub record Rests (s t : Standing) : Type 0 where
  pub leader : t.leader ≡ s.leader
  pub happy : t.happy ≡ s.happy

abbrev pub is_timeout : Call → Bool
is_timeout (set_priority p) = false
is_timeout outgoing_mut = false
is_timeout (handle m) = false
is_timeout new_hb_round = false
is_timeout (hb_timeout p) = true
is_timeout get_current_ballot = false
is_timeout get_ballots = false

-- what each call does to where the node stands
module _ (x : Election) where
  reply_rests : (r : HeartbeatReply) → (replying r x).standing ≡ x.standing
  reply_rests r = go (ours r x)
    where
      go : (b : Bool) → (if b then keeping (x.replies ++ r ∷ []) x else x).standing ≡ x.standing
      go true = refl
      go false = refl

  handle_rests : (m : BLEMessage) → (effect (handle m) x).standing ≡ x.standing
  handle_rests m = go m.is_reply
    where
      go : (b : Bool)
          → (if b then replying m.reply x else requested m.from m.reply.round x).standing ≡ x.standing
      go true = reply_rests m.reply
      go false = refl

  at_rest : (t : Standing) → t ≡ x.standing → Rests x.standing t
  at_rest t e = record {
    leader = ap (λ (s : Standing). s.leader) e;
    happy = ap (λ (s : Standing). s.happy) e;
  }

  effect_rests : (c : Call) → is_timeout c ≡ false → Rests x.standing (effect c x).standing
  effect_rests (set_priority p) h = record { leader = refl; happy = refl }
  effect_rests outgoing_mut h = at_rest x.standing refl
  effect_rests (handle m) h = at_rest (effect (handle m) x).standing (handle_rests m)
  effect_rests new_hb_round h = at_rest x.standing refl
  effect_rests (hb_timeout p) h = absurd (true≢false h)
  effect_rests get_current_ballot h = at_rest x.standing refl
  effect_rests get_ballots h = at_rest x.standing refl

  still : (t : Standing) → t ≡ x.standing → Behind x.standing → Onward x.standing t
  still t e h = rw e (record { own = omega arith; leader = stays refl; behind = h })

  effect_onward : Behind x.standing → (c : Call) → Onward x.standing (effect c x).standing
  effect_onward h (set_priority p) = record { own = omega arith; leader = stays refl; behind = h }
  effect_onward h outgoing_mut = still x.standing refl h
  effect_onward h (handle m) = still (effect (handle m) x).standing (handle_rests m) h
  effect_onward h new_hb_round = still x.standing refl h
  effect_onward h (hb_timeout p) = timeout_onward x h p
  effect_onward h get_current_ballot = still x.standing refl h
  effect_onward h get_ballots = still x.standing refl h

module _ (c : Call) (e : BallotLeaderElection) where
  -- "only a timeout changes leader or happiness"
  pub only_timeout : is_timeout c ≡ false → Rests (standing_in e) (standing_in (run c e).after)
  only_timeout t = go (run c e) (ends c e)
    where
      go : (o : Outcome (Reply c)) → Ends c e o → Rests (standing_in e) (standing_in o.after)
      go o (stops n k v q) = at_rest (election_of e) (standing_in o.after) (ap (λ (z : Outcome (Reply c)). standing_in z.after) q)
      go o (stands f p q) = rw q (effect_rests (election_of e) c t)

  -- the own number never falls, and the leader stays or rises, through any call
  pub call_onward : formed e ≡ true → Onward (standing_in e) (standing_in (run c e).after)
  call_onward h = go (run c e) (ends c e)
    where
      go : (o : Outcome (Reply c)) → Ends c e o → Onward (standing_in e) (standing_in o.after)
      go o (stops n k v q) =
          still (election_of e) (standing_in o.after) (ap (λ (z : Outcome (Reply c)). standing_in z.after) q)
          (formed_sound e h).number
      go o (stands f p q) = rw q (effect_onward (election_of e) (formed_sound e f).number c)

-- through any list of calls
pub calls_onward : (cs : List Call) (e : BallotLeaderElection) → formed e ≡ true
    → Onward (standing_in e) (standing_in (after cs e))
calls_onward [] e h = record { own = omega arith; leader = stays refl; behind = (formed_sound e h).number }
calls_onward (c ∷ cs) e h =
    onward_trans (standing_in e) (standing_in (run c e).after) (standing_in (after cs (run c e).after))
    (call_onward c e h) (calls_onward cs (run c e).after (call_keeps c e h))

-- "the ballot number must never fall through the timeout's takeover": where a timeout stands and a takeover is due, it
-- is above its old value, and above the number of the leader that was taken for one by then
pub takeover_above : (p : Ballot) (e : BallotLeaderElection) (y : Option Ballot)
    → (run (hb_timeout p) e).answer ≡ replied y
    → let x = election_of e in takeover_due (length x.peers) x.replies (judged_of x) ≡ true
    → (e.current_ballot.n < (run (hb_timeout p) e).after.current_ballot.n)
    × ((judged_of (election_of e)).leader.n < (run (hb_timeout p) e).after.current_ballot.n)
takeover_above p e y r due = go (run (hb_timeout p) e) (ends (hb_timeout p) e) r
  where
    go : (o : Outcome (Option Ballot)) → Ends (hb_timeout p) e o → o.answer ≡ replied y
        → (e.current_ballot.n < o.after.current_ballot.n)
        × ((judged_of (election_of e)).leader.n < o.after.current_ballot.n)
    go o (stops n k v q) t =
        let s : refused n k ≡ replied y = ap (λ (z : Outcome (Option Ballot)). z.answer) (sym q) ∙ t in
        let z : ◌≡◌ {A = ℕ} 0 1 = cc in absurd (omega arith)
    go o (stands f g q) t = rw q (takeover_rises (election_of e) (formed_sound e f).number p due)

-- the refusals of each call, in their order: "18, 19, 20; earlier number first after 12 and 11"; none carries a number
abbrev pub order_of : Call → List ℕ
order_of (set_priority p) = 12 ∷ []
order_of outgoing_mut = 12 ∷ []
order_of (handle m) = 12 ∷ (if m.is_reply then 20 else 18) ∷ []
order_of new_hb_round = 12 ∷ 18 ∷ 19 ∷ []
order_of (hb_timeout p) = 12 ∷ 18 ∷ 19 ∷ []
order_of get_current_ballot = 12 ∷ []
order_of get_ballots = 12 ∷ []

abbrev row_of : Guard → ℕ × ℕ
row_of g = (g.number, g.carried)

abbrev bare : ℕ → ℕ × ℕ
bare n = (n, 0)

pub in_order : (c : Call) (e : BallotLeaderElection) → map row_of (refusals c e) ≡ map bare (order_of c)
in_order (set_priority p) e = refl
in_order outgoing_mut e = refl
in_order (handle m) e = go m.is_reply
  where
    go : (b : Bool)
        → (12, 0) ∷ map row_of (if b then reply_guards m.reply (election_of e) else request_guards (election_of e))
        ≡ map bare (12 ∷ (if b then 20 else 18) ∷ [])
    go true = refl
    go false = refl
in_order new_hb_round e = refl
in_order (hb_timeout p) e = refl
in_order get_current_ballot e = refl
in_order get_ballots e = refl

-- "repeated replies count twice": both are kept
kept_once : (r : HeartbeatReply) (x : Election) → ours r x ≡ true → replying r x ≡ keeping (x.replies ++ r ∷ []) x
kept_once r x h = ap (λ (b : Bool). if b then keeping (x.replies ++ r ∷ []) x else x) h

pub kept_twice : (r : HeartbeatReply) (x : Election) → ours r x ≡ true
    → (replying r (replying r x)).replies ≡ x.replies ++ r ∷ r ∷ []
kept_twice r x h =
    let y = keeping (x.replies ++ r ∷ []) x in
    ap (λ (z : Election). (replying r z).replies) (kept_once r x h)
    ∙ ap (λ (z : Election). z.replies) (kept_once r y h)
    ∙ append_assoc x.replies (r ∷ []) (r ∷ [])
