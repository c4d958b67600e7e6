-- A well-formed state, from its test to its facts and back: what is blank is one value, and a list in form is its
-- elements and blanks.
use Rattle.words.proofs.Prelude.{arith, ◌≡◌, refl, sym, ap, ◌∙◌, ℕ, zero, suc, ◌-◌, ◌≤◌, Bool, true, false, true≢false, ◌&&◌, not, eqb, leb}
use Rattle.words.proofs.Prelude.{eqb-true, eq-eqb, ne_eqb, leb-true, le-leb, not-true, length-drop, take-append-drop, List, [], ◌∷◌, ◌++◌}
use Rattle.words.proofs.Prelude.{length, take, drop, replicate, length-take-le}
use mathlib.Core.Bool.{beq}
use Rattle.std.specs.List.{list_all}
use Rattle.words.specs.Words.{padded}
use Rattle.words.proofs.{Tests.and_left, Tests.and_right, Tests.both_true, Laws.drop_padded}
use Rattle.words.proofs.Laws.{length-padded}
use Rattle.entry.specs.{Limits.most_peers, Limits.most_replies, Limits.most_outgoing, Order.same_ballot, Order.no_ballot}
use Rattle.entry.specs.declared.Ballot.{Ballot}
use Rattle.ballot_leader_election.specs.declared.HeartbeatReply.{HeartbeatReply}
use Rattle.ballot_leader_election.specs.declared.BLEMessage.{BLEMessage}
use Rattle.ballot_leader_election.specs.declared.BallotLeaderElection.{BallotLeaderElection}
use Rattle.ballot_leader_election.specs.State.{no_reply, no_message, pid_blank, reply_blank, message_blank, list_formed}
use Rattle.ballot_leader_election.specs.State.{formed}
use Rattle.ballot_leader_election.specs.Inner.{Held, Formed}

-- the tests of a chain of four, one by one
module _ (a b c d : Bool) (e : (a && (b && (c && d))) ≡ true) where
  first_of : a ≡ true
  first_of = and_left a (b && (c && d)) e

  second-of : b ≡ true
  second-of = and_left b (c && d) (and_right a (b && (c && d)) e)

  third_of : c ≡ true
  third_of = and_left c d (and_right b (c && d) (and_right a (b && (c && d)) e))

  fourth_of : d ≡ true
  fourth_of = and_right c d (and_right b (c && d) (and_right a (b && (c && d)) e))

pub same_ballot_lem : (a b : Ballot) → same_ballot a b ≡ true → a ≡ b
same_ballot_lem a b e =
    let p = eqb a.config_id b.config_id in
    let q = eqb a.n b.n in
    let r = eqb a.priority b.priority in
    let s = eqb a.pid b.pid in
    let config = eqb-true a.config_id b.config_id (first_of p q r s e) in
    let number = eqb-true a.n b.n (second-of p q r s e) in
    let priority = eqb-true a.priority b.priority (third_of p q r s e) in
    let pid = eqb-true a.pid b.pid (fourth_of p q r s e) in
    λ t. record { config_id = config t; n = number t; priority = priority t; pid = pid t }

-- a derived `==` with false
pub false_test : (b : Bool) → beq b false ≡ not b
false_test true = refl
false_test false = refl

unhappy : (b : Bool) → not b ≡ true → b ≡ false
unhappy b e = not-true b e

pub blank_reply : (r : HeartbeatReply) → reply_blank r ≡ true → r ≡ no_reply
blank_reply r e =
    let p = eqb r.round 0 in
    let q = same_ballot r.ballot no_ballot in
    let s = same_ballot r.leader no_ballot in
    let round = eqb-true r.round 0 (first_of p q s (not r.happy) e) in
    let ballot = same_ballot_lem r.ballot no_ballot (second-of p q s (not r.happy) e) in
    let leader = same_ballot_lem r.leader no_ballot (third_of p q s (not r.happy) e) in
    let happy = unhappy r.happy (fourth_of p q s (not r.happy) e) in
    λ t. record { round = round t; ballot = ballot t; leader = leader t; happy = happy t }

pub blank_message : (m : BLEMessage) → message_blank m ≡ true → m ≡ no_message
blank_message m e =
    let p = eqb m.from 0 in
    let q = eqb m.to 0 in
    let s = not m.is_reply in
    let from = eqb-true m.from 0 (first_of p q s (reply_blank m.reply) e) in
    let to = eqb-true m.to 0 (second-of p q s (reply_blank m.reply) e) in
    let asks = unhappy m.is_reply (third_of p q s (reply_blank m.reply) e) in
    let reply = blank_reply m.reply (fourth_of p q s (reply_blank m.reply) e) in
    λ t. record { from = from t; to = to t; is_reply = asks t; reply = reply t }

-- where one element alone passes, a list that passes is that element over and over
module _ {A : Type 0} (t : A → Bool) (b : A) where
  all_are : ((x : A) → t x ≡ true → x ≡ b) → (l : List A) → list_all t l ≡ true → l ≡ replicate (length l) b
  all_are known [] e = refl
  all_are known (x ∷ l) e =
      rw (known x (and_left (t x) (list_all t l) e))
      (ap (λ (r : List A). b ∷ r) (all_are known l (and_right (t x) (list_all t l) e)))

  all_pass : t b ≡ true → (n : ℕ) → list_all t (replicate n b) ≡ true
  all_pass e zero = refl
  all_pass e (suc n) = both_true (t b) (list_all t (replicate n b)) e (all_pass e n)

-- a list in form, at any room and any test that one value alone passes
module _ {A : Type 0} (t : A → Bool) (blank : A) (room : ℕ) where
  pub held_of : (n : ℕ) (xs : List A) → ((x : A) → t x ≡ true → x ≡ blank) → list_formed t room n xs ≡ true → Held blank room n xs
  unfolding list_formed
  held_of n xs known e =
      let long = eqb-true (length xs) room (and_left (eqb (length xs) room) _ e) in
      let rest = and_right (eqb (length xs) room) _ e in
      let few = leb-true n room (and_left (leb n room) _ rest) in
      let blanks = all_are t blank known (drop n xs) (and_right (leb n room) (list_all t (drop n xs)) rest) in
      let taken = length-take-le n xs (omega (arith, long, few)) in
      let count : length (drop n xs) ≡ room - length (take n xs) = simp length-drop (omega (arith, long, taken)) in
      record {
        long = long;
        few = few;
        rest = sym (take-append-drop n xs) ∙ ap (λ (l : List A). take n xs ++ l) (blanks ∙ ap (λ (k : ℕ). replicate k blank) count);
      }

  -- and one that is laid out
  pub padded_formed : (xs : List A) → t blank ≡ true → length xs ≤ room
      → list_formed t room (length xs) (padded blank room xs) ≡ true
  unfolding list_formed
  padded_formed xs passes h =
      both_true (eqb (length (padded blank room xs)) room) _ (eq-eqb _ _ (length-padded blank room xs h))
      (both_true (leb (length xs) room) _ (le-leb _ _ h)
      (ap (list_all t) (drop_padded blank room xs) ∙ all_pass t blank passes (room - length xs)))

  pub padded_held : ((x : A) → t x ≡ true → x ≡ blank) → (xs : List A) → t blank ≡ true → length xs ≤ room
      → Held blank room (length xs) (padded blank room xs)
  padded_held known xs passes h = held_of (length xs) (padded blank room xs) known (padded_formed xs passes h)

-- the tests of a state, one by one
module _ (e : BallotLeaderElection) where
  abbrev number_test : Bool
  number_test = leb e.current_ballot.n e.leader.n

  abbrev pid_test : Bool
  pid_test = not (eqb e.pid 0)

  abbrev peers_test : Bool
  peers_test = list_formed pid_blank most_peers e.peers.count e.peers.held

  abbrev replies_test : Bool
  replies_test = list_formed reply_blank most_replies e.heartbeat_replies.count e.heartbeat_replies.held

  abbrev prev_test : Bool
  prev_test = list_formed reply_blank most_replies e.prev_replies.count e.prev_replies.held

  abbrev outgoing_test : Bool
  outgoing_test = list_formed message_blank most_outgoing e.outgoing.count e.outgoing.held

  pub formed_facts : formed e ≡ true → Formed e
  unfolding formed
  formed_facts h =
      let lists = prev_test && outgoing_test in
      let three = fourth_of number_test pid_test peers_test (replies_test && lists) h in
      record {
        number = leb-true _ _ (first_of number_test pid_test peers_test (replies_test && lists) h);
        named = λ z. true≢false (sym (second-of number_test pid_test peers_test (replies_test && lists) h) ∙ ap not (eq-eqb e.pid 0 z));
        peers = held_of pid_blank 0 most_peers _ _ (λ x q. eqb-true x 0 q) (third_of number_test pid_test peers_test (replies_test && lists) h);
        replies = held_of reply_blank no_reply most_replies _ _ blank_reply (and_left replies_test lists three);
        prev = held_of reply_blank no_reply most_replies _ _ blank_reply (and_left prev_test outgoing_test (and_right replies_test lists three));
        outgoing = held_of message_blank no_message most_outgoing _ _ blank_message (and_right prev_test outgoing_test (and_right replies_test lists three));
      }

  pub all_formed : e.current_ballot.n ≤ e.leader.n → (e.pid ≡ 0 → ⊥) → peers_test ≡ true → replies_test ≡ true
      → prev_test ≡ true → outgoing_test ≡ true → formed e ≡ true
  unfolding formed
  all_formed number named peers replies prev outgoing =
      let lists = prev_test && outgoing_test in
      both_true number_test _ (le-leb _ _ number)
      (both_true pid_test _ (ap not (ne_eqb e.pid 0 named))
      (both_true peers_test _ peers
      (both_true replies_test lists replies (both_true prev_test outgoing_test prev outgoing))))
