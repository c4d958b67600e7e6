-- A walk over the first n entries that compares neighbours and keeps a flag: at i the flag and the order of the rest
-- are together what is asked.
use Rattle.words.proofs.Prelude.{arith, ◌≡◌, refl, sym, ap, ◌∙◌, ℕ, zero, suc, ◌+◌, ◌*◌, ◌≤◌, ◌<◌, add-one, Bool, true}
use Rattle.words.proofs.Prelude.{and-true, ◌&&◌, ltb, ltb-true, List, [], ◌∷◌, length-drop, length, drop, get_or}
use mathlib.Core.Bool.{and_assoc}
use Rattle.words.proofs.{Tests.and_left, Tests.and_right, CodedLaws.entries_length}
use Rattle.entry.specs.{Limits.width, Change.Change, Change.change_code, Change.entries_of, Inner.change_at}
use Rattle.entry.proofs.ChangeLaws.{entry_cons}
use Rattle.snapshot.specs.Folds.{climbs, rising}

short : (m : List Change) → length m ≤ 1 → rising m ≡ true
unfolding rising climbs
short [] h = refl
short (e ∷ []) h = refl
short (e ∷ (f ∷ m)) h = absurd (omega arith)

-- the first two in order, and then the rest
rising_two : (e f : Change) (m : List Change) → rising (e ∷ (f ∷ m)) ≡ (ltb e.key f.key && rising (f ∷ m))
unfolding rising climbs
rising_two e f m = refl

module _ (n : ℕ) (ws : List ℕ) (i : ℕ) (ok asked : Bool) (so : (ok && rising (drop i (entries_of n ws))) ≡ asked) where
  pub rising-end : n ≤ i + 1 → ok ≡ asked
  rising-end h =
      sym (and-true ok)
      ∙ ap (λ (t : Bool). ok && t) (sym (short (drop i (entries_of n ws))
      (omega (arith, length-drop i (entries_of n ws), entries_length change_code n ws))))
      ∙ so

  pub rising_turn : i + 1 < n → (ok && ltb (get_or ws (i * width) 0) (get_or ws ((i + 1) * width) 0)
      && rising (drop (i + 1) (entries_of n ws))) ≡ asked
  rising_turn h =
      let e : Change = change_at ws i in
      let f : Change = change_at ws (i + 1) in
      let m : List Change = drop (suc (i + 1)) (entries_of n ws) in
      let next : drop (i + 1) (entries_of n ws) ≡ f ∷ m = entry_cons (i + 1) n ws h in
      let both : drop i (entries_of n ws) ≡ e ∷ (f ∷ m) =
      entry_cons i n ws (omega arith) ∙ ap (λ (k : ℕ). e ∷ drop k (entries_of n ws)) (sym (add-one i))
      ∙ ap (λ (l : List Change). e ∷ l) next in
      ap (λ (l : List Change). ok && ltb e.key f.key && rising l) next
      ∙ and_assoc ok (ltb e.key f.key) (rising (f ∷ m))
      ∙ ap (λ (t : Bool). ok && t) (sym (rising_two e f m))
      ∙ ap (λ (l : List Change). ok && rising l) (sym both)
      ∙ so

-- where all ascend, so do the entries from any on, and each key is below the next
module _ (n : ℕ) (ws : List ℕ) (up : rising (entries_of n ws) ≡ true) where
  turn : (i : ℕ) → rising (drop i (entries_of n ws)) ≡ true → i + 1 < n
      → (get_or ws (i * width) 0 < get_or ws ((i + 1) * width) 0) × (rising (drop (i + 1) (entries_of n ws)) ≡ true)
  turn i e h =
      let a : ℕ = get_or ws (i * width) 0 in
      let b : ℕ = get_or ws ((i + 1) * width) 0 in
      let both = rising_turn n ws i true true e h in (
        ltb-true a b (and_left (true && ltb a b) (rising (drop (i + 1) (entries_of n ws))) both),
        and_right (true && ltb a b) (rising (drop (i + 1) (entries_of n ws))) both,
      )

  from : (i : ℕ) → i < n → rising (drop i (entries_of n ws)) ≡ true
  from zero h = up
  from (suc i) h = rw (sym (add-one i)) (turn i (from i (omega arith)) (omega arith)).1

  pub keys_climb : (i : ℕ) → i + 1 < n → get_or ws (i * width) 0 < get_or ws ((i + 1) * width) 0
  keys_climb i h = (turn i (from i (omega arith)) h).0
