-- A well-formed state, as facts with names instead of tests, both ways.
use Rattle.words.proofs.Prelude.{arith, ◌≡◌, refl, ℕ, ◌+◌, ◌-◌, ◌≤◌, min, Bool, true, false, ◌&&◌, ◌||◌, not, eqb, ltb}
use Rattle.words.proofs.Prelude.{leb, eq-eqb, eqb-true, eqb-false, lt-ltb, ltb-true, le-leb, leb-true, if◌then◌else◌}
use Rattle.words.proofs.Prelude.{Option, none, some, List, length, take}
use Rattle.words.specs.All.{all_of}
use Rattle.words.proofs.{Tests.and_left, Tests.and_right, Tests.both_true, Alls.all_take}
use Rattle.entry.specs.{Limits.entry_room, Limits.key_room, Limits.last_index, Limits.largest_batch, Change.Change}
use Rattle.entry.specs.{Change.change_formed, Change.entries_formed, Sign.sign_formed}
use Rattle.snapshot.specs.Folds.{merge, rising}
use Rattle.snapshot.proofs.{Algebra.merge_rises, Forming.formed_merge}
use Rattle.model.specs.Inner.{Sound}
use Rattle.model.specs.Numbers.{Numbers, end_of, accepted_of, stop_decided, log_decided, numbers_formed}
use Rattle.model.specs.Log.{Log, if_given, numbers_of, or_empty, folded_to, keys_formed, well_formed}

-- log-decided is the lesser of decided and the end
pub log_min : (n : Numbers) → n.decided ≤ accepted_of n → log_decided n ≡ min n.decided (end_of n)
unfolding log_decided stop_decided accepted_of
log_min n h = go n.stop h
  where
    two : (t : Bool) → eqb n.decided (end_of n + 1) ≡ t → n.decided ≤ end_of n + 1
        → (if t then n.decided - 1 else n.decided) ≡ min n.decided (end_of n)
    two true e k = omega (arith, eqb-true n.decided (end_of n + 1) e)
    two false e k = omega (arith, eqb-false n.decided (end_of n + 1) e)

    go : (t : Bool) → n.decided ≤ end_of n + (if t then 1 else 0)
        → (if t && eqb n.decided (end_of n + (if t then 1 else 0)) then n.decided - 1 else n.decided)
        ≡ min n.decided (end_of n)
    go true k = two (eqb n.decided (end_of n + 1)) refl k
    go false k = omega arith

-- ---- numbers

small_of : (b n : ℕ) → (eqb b 0 || ltb b n) ≡ true → b ≤ n - 1
small_of b n e = go (eqb b 0) refl
  where
    go : (t : Bool) → eqb b 0 ≡ t → b ≤ n - 1
    go true q = omega (arith, eqb-true b 0 q)
    go false q = omega (arith, ltb-true b n (rw q at e))

of_small : (b n : ℕ) → b ≤ n - 1 → (eqb b 0 || ltb b n) ≡ true
of_small b n h = go (eqb b 0) refl
  where
    go : (t : Bool) → eqb b 0 ≡ t → (t || ltb b n) ≡ true
    go true q = refl
    go false q = lt-ltb b n (omega (arith, eqb-false b 0 q))

quiet_of : (t : Bool) (b : ℕ) → (not t || eqb b 0) ≡ true → t ≡ true → b ≡ 0
quiet_of true b e q = eqb-true b 0 e
quiet_of false b e q = let z : ◌≡◌ {A = ℕ} 0 1 = cc in omega arith

of_quiet : (t : Bool) (b : ℕ) → (t ≡ true → b ≡ 0) → (not t || eqb b 0) ≡ true
of_quiet true b h = eq-eqb b 0 (h refl)
of_quiet false b h = refl

pub sound_of : (n : Numbers) → numbers_formed n ≡ true → Sound n
unfolding numbers_formed
sound_of n e =
    let e₁ = and_right (leb n.compacted (log_decided n)) _ e in
    let e₂ = and_right (leb (log_decided n) (end_of n)) _ e₁ in
    let e₃ = and_right (leb n.decided (accepted_of n)) _ e₂ in
    let e₄ = and_right (leb (accepted_of n + n.batched) last_index) _ e₃ in
    let e₅ = and_right (eqb n.batched 0 || ltb n.batched n.size) _ e₄ in
    let e₆ = and_right (not n.stop || eqb n.batched 0) _ e₅ in
    let high : n.decided ≤ accepted_of n = leb-true n.decided (accepted_of n) (and_left _ _ e₂) in
    record {
      low = omega (arith, leb-true n.compacted (log_decided n) (and_left _ _ e), log_min n high);
      high = high;
      inside = leb-true (accepted_of n + n.batched) last_index (and_left _ _ e₃);
      small = small_of n.batched n.size (and_left _ _ e₄);
      quiet = quiet_of n.stop n.batched (and_left _ _ e₅);
      sized = leb-true n.size largest_batch (and_left _ _ e₆);
      room = leb-true (n.retained + n.batched) entry_room (and_right (leb n.size largest_batch) _ e₆);
    }

pub of_sound : (n : Numbers) → Sound n → numbers_formed n ≡ true
unfolding numbers_formed end_of accepted_of
of_sound n f =
    let l : log_decided n ≡ min n.decided (end_of n) = log_min n f.high in
    both_true (leb n.compacted (log_decided n)) _ (le-leb n.compacted (log_decided n) (omega (arith, f.low)))
    (both_true (leb (log_decided n) (end_of n)) _ (le-leb (log_decided n) (end_of n) (omega arith))
    (both_true (leb n.decided (accepted_of n)) _ (le-leb n.decided (accepted_of n) f.high)
    (both_true (leb (accepted_of n + n.batched) last_index) _ (le-leb (accepted_of n + n.batched) last_index f.inside)
    (both_true (eqb n.batched 0 || ltb n.batched n.size) _ (of_small n.batched n.size f.small)
    (both_true (not n.stop || eqb n.batched 0) _ (of_quiet n.stop n.batched f.quiet)
    (both_true (leb n.size largest_batch) _ (le-leb n.size largest_batch f.sized)
    (le-leb (n.retained + n.batched) entry_room f.room)))))))

-- where log-decided lies
pub record Ranges (n : Numbers) : Type 0 where
  pub low : n.compacted ≤ log_decided n
  pub high : log_decided n ≤ end_of n

pub ranges : (n : Numbers) → Sound n → Ranges n
unfolding end_of
ranges n f =
    let l : log_decided n ≡ min n.decided (end_of n) = log_min n f.high in
    record { low = omega (arith, f.low); high = omega arith }

-- ---- states

pub record Formed (s : Log) : Type 0 where
  pub numbers : Sound (numbers_of s)
  pub entries : entries_formed s.run.retained ≡ true
  pub batch : entries_formed s.tail.batched ≡ true
  pub snapshot : if_given keys_formed s.run.held ≡ true
  pub stop : if_given sign_formed s.tail.sign ≡ true

pub formed_of : (s : Log) → well_formed s ≡ true → Formed s
unfolding well_formed
formed_of s e =
    let e₁ = and_right (numbers_formed (numbers_of s)) _ e in
    let e₂ = and_right (entries_formed s.run.retained) _ e₁ in
    let e₃ = and_right (entries_formed s.tail.batched) _ e₂ in
    record {
      numbers = sound_of (numbers_of s) (and_left _ _ e);
      entries = and_left _ _ e₁;
      batch = and_left _ _ e₂;
      snapshot = and_left _ _ e₃;
      stop = and_right (if_given keys_formed s.run.held) _ e₃;
    }

pub of_formed : (s : Log) → Formed s → well_formed s ≡ true
unfolding well_formed
of_formed s f =
    both_true (numbers_formed (numbers_of s)) _ (of_sound (numbers_of s) f.numbers)
    (both_true (entries_formed s.run.retained) _ f.entries
    (both_true (entries_formed s.tail.batched) _ f.batch
    (both_true (if_given keys_formed s.run.held) _ f.snapshot f.stop)))

-- ---- snapshots: the one held, and those made from it

pub record Snapshot (t : List Change) : Type 0 where
  pub rises : rising t ≡ true
  pub fine : entries_formed t ≡ true

pub snapshot_held_lem : (h : Option (List Change)) → if_given keys_formed h ≡ true → Snapshot (or_empty h)
unfolding keys_formed rising all_of
snapshot_held_lem none e = record { rises = refl; fine = refl }
snapshot_held_lem (some t) e =
    let q = and_right (rising t) (leb (length t) key_room && entries_formed t) e in
    record {
      rises = and_left (rising t) (leb (length t) key_room && entries_formed t) e;
      fine = and_right (leb (length t) key_room) (entries_formed t) q;
    }

pub snapshot_merge : (t r : List Change) → Snapshot t → entries_formed r ≡ true → Snapshot (merge t r)
snapshot_merge t r a b = record { rises = merge_rises t r a.rises; fine = formed_merge t r a.fine b }

pub of_snapshot : (t : List Change) → Snapshot t → length t ≤ key_room → keys_formed t ≡ true
unfolding keys_formed
of_snapshot t a h = both_true (rising t) _ a.rises
    (both_true (leb (length t) key_room) (entries_formed t) (le-leb (length t) key_room h) a.fine)

pub snapshot_folded : (i : ℕ) (s : Log) → Formed s → Snapshot (folded_to i s.run)
unfolding folded_to
snapshot_folded i s f =
    snapshot_merge (or_empty s.run.held) (take (i - s.run.compacted) s.run.retained)
    (snapshot_held_lem s.run.held f.snapshot)
    (all_take change_formed (i - s.run.compacted) s.run.retained f.entries)
