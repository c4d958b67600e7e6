-- Where a node stands goes onward in every step of a timeout: its own number does not fall, the leader stays or rises,
-- and the own number is not above the leader's. A takeover puts it above both.
use Rattle.words.proofs.Prelude.{arith, ◌≡◌, refl, ap, ◌∙◌, ℕ, ◌≤◌, ◌<◌, Bool, true, eqb, if◌then◌else◌}
use Rattle.words.proofs.Prelude.{List, length}
use Rattle.std.specs.Prelude.{Option, Some, None}
use Rattle.words.proofs.Tests.{either}
use Rattle.entry.specs.declared.Ballot.{Ballot}
use Rattle.ballot_leader_election.specs.declared.HeartbeatReply.{HeartbeatReply}
use Rattle.ballot_leader_election.specs.declared.steps.Standing.{Standing}
use Rattle.ballot_leader_election.specs.State.{Election}
use Rattle.ballot_leader_election.specs.Steps.{above, max_ballot, standing, leader_by, update_leader}
use Rattle.ballot_leader_election.specs.Steps.{update_happiness, takeover_due, taken_over, check_takeover, promised}
use Rattle.ballot_leader_election.specs.Steps.{timed_out}
use Rattle.ballot_leader_election.proofs.Over.{Over, by_number, above_over, over_number, over_trans}

-- the own number is not above the leader's
abbrev pub Behind : Standing → Type 0
Behind s = s.current_ballot.n ≤ s.leader.n

pub data Rises (old new : Ballot) : Type 0 where
  stays : new ≡ old → Rises old new
  rises : Over new old → Rises old new

rises_number : (a b : Ballot) → Rises a b → a.n ≤ b.n
rises_number a b (stays e) = omega (arith, ap (λ (x : Ballot). x.n) e)
rises_number a b (rises o) = over_number b a o

rises_trans : (a b c : Ballot) → Rises a b → Rises b c → Rises a c
rises_trans a b c (stays e) (stays f) = stays (f ∙ e)
rises_trans a b c (stays e) (rises o) = rises (rw (← e) o)
rises_trans a b c (rises o) (stays f) = rises (rw f o)
rises_trans a b c (rises o) (rises u) = rises (over_trans c b a u o)

pub record Onward (s t : Standing) : Type 0 where
  pub own : s.current_ballot.n ≤ t.current_ballot.n
  pub leader : Rises s.leader t.leader
  pub behind : Behind t

rests : (s : Standing) → Behind s → Onward s s
rests s h = record { own = omega arith; leader = stays refl; behind = h }

pub onward_trans : (s t u : Standing) → Onward s t → Onward t u → Onward s u
onward_trans s t u p q = record {
  own = omega (arith, p.own, q.own);
  leader = rises_trans s.leader t.leader u.leader p.leader q.leader;
  behind = q.behind;
}

module _ (s : Standing) (h : Behind s) where
  -- a leader that is above the one before, with the same own ballot
  moved : (b : Ballot) (happy : Bool) → above b s.leader ≡ true → Onward s (standing s.current_ballot b happy)
  moved b happy e =
      let o = above_over b s.leader e in
      record { own = omega arith; leader = rises o; behind = omega (arith, h, over_number b s.leader o) }

  leader_by_lem : (m : Option Ballot) → Onward s (leader_by m s)
  leader_by_lem None = rests s h
  leader_by_lem (Some b) =
      either (Onward s) (above b s.leader) (standing s.current_ballot b s.happy) s
      (λ e. moved b s.happy e) (λ e. rests s h)

  pub leader_onward : (rs : List HeartbeatReply) → Onward s (update_leader rs s)
  unfolding update_leader
  leader_onward rs = leader_by_lem (max_ballot rs)

  pub happiness_onward : (n : ℕ) (rs : List HeartbeatReply) → Onward s (update_happiness n rs s)
  happiness_onward n rs = record { own = omega arith; leader = stays refl; behind = h }

  -- a takeover: above the own number and above the leader's
  pub taken_above : (s.current_ballot.n < (taken_over s).current_ballot.n)
      × (s.leader.n < (taken_over s).current_ballot.n)
  taken_above = (omega (arith, h), omega arith)

  taken_onward : Onward s (taken_over s)
  taken_onward = record {
    own = omega (arith, h);
    leader = rises (by_number (omega arith));
    behind = omega arith;
  }

  pub takeover_onward : (n : ℕ) (rs : List HeartbeatReply) → Onward s (check_takeover n rs s)
  takeover_onward n rs =
      either (Onward s) (takeover_due n rs s) (taken_over s) s (λ e. taken_onward) (λ e. rests s h)

  promised_to : (p mine : Ballot) → above p s.leader ≡ true → s.current_ballot.n ≤ mine.n → mine.n ≤ p.n
      → Onward s (standing mine p true)
  promised_to p mine e k l = record { own = k; leader = rises (above_over p s.leader e); behind = l }

  pub promise_onward : (pid : ℕ) (p : Ballot) → Onward s (promised pid p s)
  unfolding promised
  promise_onward pid p =
      either (Onward s) (above p s.leader)
      (standing (if eqb p.pid pid then p else s.current_ballot) p true) s
      (λ e.
      let k = over_number p s.leader (above_over p s.leader e) in
      either (λ (b : Ballot). Onward s (standing b p true)) (eqb p.pid pid) p s.current_ballot
      (λ t. promised_to p p e (omega (arith, h, k)) (omega arith))
      (λ t. promised_to p s.current_ballot e (omega arith) (omega (arith, h, k))))
      (λ e. rests s h)

-- the steps one after the other: the leader and happiness, by which a takeover is judged
abbrev pub judged_of : Election → Standing
judged_of x = update_happiness (length x.peers) x.replies (update_leader x.replies x.standing)

module _ (x : Election) (h : Behind x.standing) (p : Ballot) where
  abbrev updated : Standing
  updated = update_leader x.replies x.standing

  abbrev judged : Standing
  judged = judged_of x

  abbrev taken : Standing
  taken = check_takeover (length x.peers) x.replies judged

  to_updated : Onward x.standing updated
  to_updated = leader_onward x.standing h x.replies

  to_judged : Onward x.standing judged
  to_judged =
      onward_trans x.standing updated judged to_updated
      (happiness_onward updated to_updated.behind (length x.peers) x.replies)

  to_taken : Onward x.standing taken
  to_taken =
      onward_trans x.standing judged taken to_judged
      (takeover_onward judged to_judged.behind (length x.peers) x.replies)

  from_taken : Onward taken (timed_out p x).standing
  from_taken = promise_onward taken to_taken.behind x.pid p

  pub timeout_onward : Onward x.standing (timed_out p x).standing
  timeout_onward = onward_trans x.standing taken (timed_out p x).standing to_taken from_taken

  -- "the ballot number must never fall through the timeout's takeover": it is above its old value, and above the number
  -- of the leader as it was updated
  pub takeover_rises : takeover_due (length x.peers) x.replies judged ≡ true
      → (x.standing.current_ballot.n < (timed_out p x).standing.current_ballot.n)
      × (judged.leader.n < (timed_out p x).standing.current_ballot.n)
  takeover_rises due =
      let e : taken ≡ taken_over judged = ap (λ (b : Bool). if b then taken_over judged else judged) due in
      let n = ap (λ (s : Standing). s.current_ballot.n) e in
      let t = taken_above judged to_judged.behind in
      (omega (arith, n, t.0, to_judged.own, from_taken.own), omega (arith, n, t.1, from_taken.own))
