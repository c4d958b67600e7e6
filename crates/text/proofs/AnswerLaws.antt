-- A number has one count of digits, and the lines of a run's entries go on by one entry.
use Rattle.words.proofs.Prelude.{arith, ◌≡◌, refl, ap, ◌∙◌, ℕ, zero, suc, ◌+◌, ◌-◌, ◌/◌, ◌≤◌, ◌<◌, add-one, Bool, true}
use Rattle.words.proofs.Prelude.{false, ltb, lt-ltb, le-ltb, ltb-true, ltb-false, if◌then◌else◌, List, [], ◌∷◌, append_assoc}
use Rattle.words.proofs.Prelude.{◌++◌, length, length-append, drop_of_length-le, drop}
use Prim.Native.Nat.{◌%◌, ◌^◌}
use native.Mathlib.Nat.{pow-suc}
use Rattle.words.proofs.CodedLaws.{entries_length}
use Rattle.entry.specs.{Change.change_code, Change.entries_of, Inner.change_at}
use Rattle.entry.proofs.ChangeLaws.{entry_cons}
use Rattle.text.specs.Rooms.{most_digits}
use Rattle.text.specs.Answers.{digits_up_to, last_digits, decimal_of, entry_line, entry_lines}

-- the count is one and the same from any fuel that is enough
digits_by : (fuel n : ℕ) (t : Bool) → digits_up_to fuel (n / 10) ≡ digits_up_to (suc fuel) (n / 10)
    → (if t then 1 else suc (digits_up_to fuel (n / 10))) ≡ (if t then 1 else suc (digits_up_to (suc fuel) (n / 10)))
digits_by fuel n true e = refl
digits_by fuel n false e = ap suc e

digits_enough : (fuel n : ℕ) → n < 10 ^ suc fuel → digits_up_to fuel n ≡ digits_up_to (suc fuel) n
digits_enough zero n h = rw (lt-ltb n 10 (omega arith))
digits_enough (suc fuel) n h =
    digits_by fuel n (ltb n 10) (digits_enough fuel (n / 10) (omega (arith, pow-suc 10 (suc fuel))))

digits_most : (fuel n : ℕ) → digits_up_to fuel n ≤ suc fuel
digits_most zero n = omega arith
digits_most (suc fuel) n = go (ltb n 10) (digits_most fuel (n / 10))
  where
    go : (t : Bool) → digits_up_to fuel (n / 10) ≤ suc fuel
        → (if t then 1 else suc (digits_up_to fuel (n / 10))) ≤ suc (suc fuel)
    go true h = omega arith
    go false h = omega arith

last_digits_length : (k n : ℕ) → length (last_digits k n) ≡ k
last_digits_length zero n = refl
last_digits_length (suc k) n =
    length-append (last_digits k (n / 10)) _ ∙ omega (arith, last_digits_length k (n / 10))

module _ (n : ℕ) where
  pub decimal_most : length (decimal_of n) ≤ most_digits
  unfolding decimal_of
  decimal_most =
      omega (arith, last_digits_length (digits_up_to (most_digits - 1) n) n, digits_most (most_digits - 1) n)

  -- below 10 there is one digit
  pub decimal_one : n < 10 → decimal_of n ≡ (48 + n % 10) ∷ []
  unfolding decimal_of
  decimal_one h = rw (lt-ltb n 10 h)

  -- from 10 up they are those of the tenth and one more
  pub decimal_more : 10 ≤ n → n < 2 ^ 64 → decimal_of n ≡ decimal_of (n / 10) ++ (48 + n % 10) ∷ []
  unfolding decimal_of
  decimal_more h b = rw (le-ltb n 10 h, digits_enough (most_digits - 2) (n / 10) (omega arith))

  pub decimal_one_length : n < 10 → length (decimal_of n) ≡ 1
  decimal_one_length h = ap length (decimal_one h)

  pub decimal_more_length : 10 ≤ n → n < 2 ^ 64 → length (decimal_of n) ≡ length (decimal_of (n / 10)) + 1
  decimal_more_length h b = ap length (decimal_more h b) ∙ length-append (decimal_of (n / 10)) _

-- three pieces put one after the other
pub glue : {t u v : List ℕ} (a l d e : List ℕ) → t ≡ u ++ e → u ≡ v ++ d → v ≡ a ++ l → t ≡ a ++ (l ++ d ++ e)
glue a l d e p q r = p ∙ rw (q, r) (simp append_assoc)

-- two numbers, put one after the other with what stands beside them
pub glue_two : {t u : List ℕ} (a l d s e n : List ℕ) → t ≡ u ++ (e ++ n) → u ≡ a ++ (l ++ d ++ s)
    → t ≡ a ++ (l ++ d ++ s ++ e ++ n)
glue_two a l d s e n p q = p ∙ rw q (simp append_assoc)

-- what is put and what is left make the whole, turn by turn
pub turn : {t' : List ℕ} (t l r r' a : List ℕ) → t' ≡ t ++ l → r ≡ l ++ r' → t ++ r ≡ a → t' ++ r' ≡ a
turn t l r r' a p q inv = rw (p, append_assoc t l r', ← q) inv

-- the lines of the entries from i on: the entry at i is decided where i is below the number of those that are
early : (i d : ℕ) → ltb 0 (d - i) ≡ ltb i d
early i d = go (ltb i d) refl
  where
    go : (t : Bool) → ltb i d ≡ t → ltb 0 (d - i) ≡ t
    go true e = lt-ltb 0 (d - i) (omega (arith, ltb-true i d e))
    go false e = le-ltb 0 (d - i) (omega (arith, ltb-false i d e))

module _ (d n : ℕ) (ws : List ℕ) (i : ℕ) where
  pub lines_next : i < n → entry_lines (d - i) (drop i (entries_of n ws))
      ≡ entry_line (ltb i d) (change_at ws i) ++ entry_lines (d - (i + 1)) (drop (i + 1) (entries_of n ws))
  unfolding entry_lines
  lines_next h =
      let e : d - (i + 1) ≡ d - i - 1 = omega arith in
      rw (e, add-one i, entry_cons i n ws h, early i d)

  pub lines_end : n ≤ i → entry_lines (d - i) (drop i (entries_of n ws)) ≡ []
  unfolding entry_lines
  lines_end h =
      ap (entry_lines (d - i))
      (drop_of_length-le (entries_of n ws) {i = i} (omega (arith, entries_length change_code n ws)))
