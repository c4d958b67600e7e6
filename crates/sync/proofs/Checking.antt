-- The numbers of a sync as the code compares them: no sum that might not fit.
use Rattle.words.proofs.Prelude.{arith, ◌≡◌, sym, ap, ap₂, ◌∙◌, ℕ, ◌+◌, ◌-◌, ◌≤◌, ◌<◌, max, Bool, true, false, ◌&&◌}
use Rattle.words.proofs.Prelude.{◌||◌, not, ltb, lt-ltb, le-ltb, ltb-false, if◌then◌else◌}
use Rattle.std.specs.Prelude.{Option as Optional, is_none, is_some}
use Rattle.std.specs.Int.{from_bool}
use Rattle.words.proofs.Tests.{or_right}
use Rattle.entry.specs.{Limits.entry_room, Limits.last_index, Guards.Answer, Guards.first, Guards.refused}
use Rattle.entry.specs.{Guards.replied, Guards.settle, declared.Ballot.Ballot}
use Rattle.entry.proofs.GuardLaws.{clear_all, passing, stopping}
use Rattle.model.specs.{Numbers.Numbers, Numbers.end_of, Numbers.accepted_of, Sync.decided_then, Sync.round_guards}
use Rattle.model.specs.{Inner.Sound}
use Rattle.state_cache.specs.{State.numbers_in, State.one_if, declared.IndexRecord.IndexRecord}
use Rattle.state_cache.proofs.Small.{from_bool-one_if}
use Rattle.internal_storage.proofs.Verdicts.{settles, refuses_by}
use Rattle.sync.specs.Inner.{marked}

-- whether the sync is plain, and one where a stop-sign is asked for
pub none_is : {A : Type 0} (k : Optional A) (t : Bool) → is_some k ≡ not t → t ≡ is_none k
none_is k true e = ap not (sym e)
none_is k false e = ap not (sym e)

pub one_is : {A : Type 0} (k : Optional A) (t : Bool) (n : ℕ) → t ≡ is_some k → n ≡ from_bool t
    → n ≡ one_if (is_some k)
one_is k t n e q = q ∙ from_bool-one_if t ∙ ap one_if e

-- 9, by what is left of the indexes
pub past_is : (idx n one waiting : ℕ) (stop t : Bool) → one ≡ one_if stop
    → t ≡ ltb last_index (idx + n + (one + waiting))
    → ltb last_index (idx + n + one_if stop + waiting) ≡ t
past_is idx n one waiting stop t e p =
    let q : idx + n + one_if stop + waiting ≡ idx + n + (one + waiting) = omega (arith, e) in
    ap (ltb last_index) q ∙ sym p

-- 7 and 2, by whether the sync is plain; 1 and 6, by sums that fit once 7 and 9 do not apply
pub outside_is : (idx : ℕ) (n : Numbers) (p plain : Bool) (end : ℕ) → p ≡ plain → end ≡ end_of n → (t : Bool)
    → (p && (ltb idx n.compacted || ltb end idx)) ≡ t
    → (plain && (ltb idx n.compacted || ltb (end_of n) idx)) ≡ t
outside_is idx n p plain end e q t h = rw (← e, ← q) h

pub above_is : (idx d next : ℕ) (n : Numbers) (p plain : Bool) → p ≡ plain → next ≡ max d n.decided → (t : Bool)
    → (not p && ltb next idx) ≡ t → (not plain && ltb (max d n.decided) idx) ≡ t
above_is idx d next n p plain e q t h = rw (← e, ← q) h

-- a sync that is not outside the run keeps no more than there is
pub kept_few : (idx : ℕ) (n : Numbers) (plain : Bool) (kept : ℕ) → kept ≡ (if plain then idx - n.compacted else 0)
    → (plain && (ltb idx n.compacted || ltb (end_of n) idx)) ≡ false → kept ≤ n.retained
kept_few idx n true kept e h = unfold end_of in
    omega (arith, e, ltb-false (n.compacted + n.retained) idx (or_right (ltb idx n.compacted) _ h))
kept_few idx n false kept e h = omega (arith, e)

module _ (idx count kept : ℕ) (plain : Bool) (n : Numbers) (f : Sound n)
    (k : kept ≡ (if plain then idx - n.compacted else 0)) (few : kept ≤ n.retained) where
  pub no_room : entry_room - (kept + n.batched) < count
      → ltb entry_room ((if plain then idx - n.compacted else 0) + count + n.batched) ≡ true
  no_room h = rw (← k) (lt-ltb entry_room (kept + count + n.batched) (omega (arith, f.room)))

  pub room : count ≤ entry_room - (kept + n.batched)
      → ltb entry_room ((if plain then idx - n.compacted else 0) + count + n.batched) ≡ false
  room h = rw (← k) (le-ltb entry_room (kept + count + n.batched) (omega (arith, f.room)))

module _ (idx count d one next : ℕ) (stop : Bool) (n : Numbers) (e : one ≡ one_if stop)
    (q : next ≡ max d n.decided) where
  pub above_accepted : idx + count + one < next → ltb (idx + count + one_if stop) (max d n.decided) ≡ true
  above_accepted h = lt-ltb (idx + count + one_if stop) (max d n.decided) (omega (arith, e, q))

  pub not_above : next ≤ idx + count + one → ltb (idx + count + one_if stop) (max d n.decided) ≡ false
  not_above h = le-ltb (idx + count + one_if stop) (max d n.decided) (omega (arith, e, q))

-- without log part: 6, or the marks
module _ (b : Ballot) (d last : ℕ) (x y : IndexRecord) (l : last ≡ accepted_of (numbers_in x))
    (m : y ≡ marked b d x) where
  abbrev told : Answer (IndexRecord × ℕ)
  told = settle (first (round_guards d (numbers_in x))) (marked b d x, accepted_of (numbers_in x))

  larger_is : y.decided.0 ≡ decided_then d (numbers_in x)
  larger_is = ap (λ (z : IndexRecord). z.decided.0) m

  pub round_refused : last < y.decided.0 → refused 6 last ≡ told
  unfolding round_guards
  round_refused h =
      refuses_by _ (stopping (lt-ltb (accepted_of (numbers_in x)) (decided_then d (numbers_in x))
      (rw (← l, ← larger_is) h)) l)

  pub round_passes : y.decided.0 ≤ last → replied (y, last) ≡ told
  unfolding round_guards
  round_passes h =
      ap₂ (λ (z : IndexRecord) (k : ℕ). replied (z, k)) m l
      ∙ settles (passing (le-ltb (accepted_of (numbers_in x)) (decided_then d (numbers_in x))
      (rw (← l, ← larger_is) h)) clear_all)
