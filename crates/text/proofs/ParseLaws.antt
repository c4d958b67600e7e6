-- How the definitions of a line's words and numbers go on by one byte at an index, as the loops take them.
use Rattle.words.proofs.Prelude.{arith, ◌≡◌, refl, sym, ap, ◌∙◌, ℕ, suc, ◌+◌, ◌-◌, ◌*◌, ◌≤◌, ◌<◌, add-one, Bool, true, false}
use Rattle.words.proofs.Prelude.{and-true, ◌&&◌, eqb, ltb, eq-eqb, ne_eqb, ltb-false, lt-ltb, le-ltb, le-leb, not}
use Rattle.words.proofs.Prelude.{if◌then◌else◌, List, [], ◌∷◌, drop_of_length-le, length, take, drop, get_or, drop-cons}
use Prim.Native.Nat.{◌^◌}
use mathlib.Core.Bool.{and-false}
use borrow.Author.Rules.{part_to_end}
use lib.Pointwise.{pointwise}
use Rattle.words.specs.All.{all_of}
use Rattle.text.specs.{Number.is_digit, Number.value, Number.numeral_of, Parse.same_of, Parse.words, Parse.onto}
use Rattle.text.specs.{Parse.command_of, Bytes.gap_of}
use Rattle.std.specs.Prelude.{Option, Some, None, position, unwrap_or, ◌==◌, cond}
use Rattle.std.specs.List.{position_or_len}
use Rattle.text.specs.{declared.Command.TheVariants.BadLine}

-- the first b, as the library finds it
gap-prefix : (b : ℕ) (s : List ℕ) → position_or_len (λ (x : ℕ). x == b) s ≡ gap_of b s
gap-prefix b [] = refl
gap-prefix b (x ∷ xs) = go (eqb x b) (gap-prefix b xs)
  where
    go : (t : Bool) → position_or_len (λ (y : ℕ). y == b) xs ≡ gap_of b xs
        → cond (not t) (1 + position_or_len (λ (y : ℕ). y == b) xs) 0 ≡ (if t then 0 else suc (gap_of b xs))
    go true e = refl
    go false e = omega (arith, e)

gap_le : (b : ℕ) (s : List ℕ) → gap_of b s ≤ length s
gap_le b [] = omega arith
gap_le b (x ∷ xs) = go (eqb x b) (gap_le b xs)
  where
    go : (t : Bool) → gap_of b xs ≤ length xs → (if t then 0 else suc (gap_of b xs)) ≤ length (x ∷ xs)
    go true h = omega arith
    go false h = omega arith

pub gap-position : (b : ℕ) (s : List ℕ) → unwrap_or (position (λ (x : ℕ). x == b) s) (length s) ≡ gap_of b s
gap-position b s = go (ltb (gap_of b s) (length s)) refl
  where
    go : (t : Bool) → ltb (gap_of b s) (length s) ≡ t → unwrap_or (position (λ (x : ℕ). x == b) s) (length s) ≡ gap_of b s
    go true e = rw (gap-prefix b s, e)
    go false e = rw (gap-prefix b s, e) (omega (arith, ltb-false _ _ e, gap_le b s))

words_none_by : (b : ℕ) (bs : List ℕ) (t : Bool) → (if t then 0 else suc (gap_of 32 bs)) ≡ suc (length bs)
    → (gap_of 32 bs ≡ length bs → words bs ≡ bs ∷ [])
    → (if t then [] ∷ words bs else onto b (words bs)) ≡ (b ∷ bs) ∷ []
words_none_by b bs true e ih = absurd (omega arith)
words_none_by b bs false e ih = rw (ih (omega arith))

pub words_none : (xs : List ℕ) → gap_of 32 xs ≡ length xs → words xs ≡ xs ∷ []
words_none [] e = refl
words_none (b ∷ bs) e = words_none_by b bs (eqb b 32) e (words_none bs)

words_some_by : (b : ℕ) (bs : List ℕ) (t : Bool) → (if t then 0 else suc (gap_of 32 bs)) < suc (length bs)
    → (gap_of 32 bs < length bs → words bs ≡ take (gap_of 32 bs) bs ∷ words (drop (suc (gap_of 32 bs)) bs))
    → (if t then [] ∷ words bs else onto b (words bs))
    ≡ take (if t then 0 else suc (gap_of 32 bs)) (b ∷ bs)
    ∷ words (drop (suc (if t then 0 else suc (gap_of 32 bs))) (b ∷ bs))
words_some_by b bs true h ih = refl
words_some_by b bs false h ih = rw (ih (omega arith))

pub words_some : (xs : List ℕ) → gap_of 32 xs < length xs
    → words xs ≡ take (gap_of 32 xs) xs ∷ words (drop (suc (gap_of 32 xs)) xs)
words_some [] h = absurd (omega arith)
words_some (b ∷ bs) h = words_some_by b bs (eqb b 32) h (words_some bs)

-- what follows the space at e, as the code cuts it
abbrev pub rest : List ℕ → ℕ → List ℕ
rest xs e = take (length xs - (e + 1)) (drop (e + 1) xs)

pub words_more : (xs : List ℕ) (e : ℕ) → e ≡ gap_of 32 xs → e ≤ length xs → (e ≡ length xs → ⊥)
    → words xs ≡ take e xs ∷ words (rest xs e)
words_more xs e g h ne = rw (part_to_end xs (e + 1), g, add-one) (words_some xs (omega arith))

-- a line of four words or more
module _ (w a b : List ℕ) where
  four_onto : (x : ℕ) (ws : List (List ℕ)) → BadLine ≡ command_of (w ∷ a ∷ b ∷ onto x ws)
  four_onto x [] = refl
  four_onto x (v ∷ vs) = refl

  four_by : (x : ℕ) (xs : List ℕ) (t : Bool)
      → BadLine ≡ command_of (w ∷ a ∷ b ∷ (if t then [] ∷ words xs else onto x (words xs)))
  four_by x xs true = refl
  four_by x xs false = four_onto x (words xs)

  pub four : (xs : List ℕ) → BadLine ≡ command_of (w ∷ a ∷ b ∷ words xs)
  four [] = refl
  four (x ∷ xs) = four_by x xs (eqb x 32)

-- two lists of bytes
pub same_lengths : (a b : List ℕ) → (length a ≡ length b → ⊥) → same_of a b ≡ false
same_lengths [] [] ne = absurd (ne refl)
same_lengths [] (y ∷ ys) ne = refl
same_lengths (x ∷ xs) [] ne = refl
same_lengths (x ∷ xs) (y ∷ ys) ne = rw (same_lengths xs ys (λ e. ne (ap suc e))) (and-false (eqb x y))

-- the library's equality of slices, and what a test by it says of a literal
same-pointwise : (a b : List ℕ) → pointwise eqb a b ≡ same_of a b
same-pointwise [] [] = refl
same-pointwise [] (y ∷ ys) = refl
same-pointwise (x ∷ xs) [] = refl
same-pointwise (x ∷ xs) (y ∷ ys) = ap (λ (t : Bool). eqb x y && t) (same-pointwise xs ys)

pub is_by : (w lit : List ℕ) {r : List ℕ} {q t : Bool} → r ≡ lit → q ≡ pointwise eqb w r → q ≡ t → same_of w lit ≡ t
is_by w lit e f g = sym (same-pointwise w lit) ∙ ap (pointwise eqb w) (sym e) ∙ sym f ∙ g

-- numbers: what the digits that are left make of the number already read
unfoldable pub whole : ℕ → List ℕ → Option ℕ
whole n xs = if all_of is_digit xs && ltb (value n xs) (2 ^ 64) then Some (value n xs) else None

value_grows : (n : ℕ) (xs : List ℕ) → n ≤ value n xs
value_grows n [] = omega arith
value_grows n (b ∷ bs) = omega (arith, value_grows (n * 10 + (b - 48)) bs)

pub number_empty : (s : List ℕ) → length s ≡ 0 → numeral_of s ≡ None
unfolding numeral_of
number_empty [] e = refl
number_empty (b ∷ bs) e = absurd (omega arith)

pub number_zero : (s : List ℕ) → 1 < length s → get_or s 0 0 ≡ 48 → numeral_of s ≡ None
unfolding numeral_of
number_zero [] h e = absurd (omega arith)
number_zero (b ∷ []) h e = absurd (omega arith)
number_zero (b ∷ c ∷ bs) h e = rw (eq-eqb b 48 e)

pub number_one : (s : List ℕ) → length s ≡ 1 → whole 0 s ≡ numeral_of s
unfolding numeral_of whole all_of
number_one [] e = absurd (omega arith)
number_one (b ∷ []) e = rw (and-true (is_digit b))
number_one (b ∷ c ∷ bs) e = absurd (omega arith)

pub number_more : (s : List ℕ) → 1 < length s → (get_or s 0 0 ≡ 48 → ⊥) → whole 0 s ≡ numeral_of s
unfolding numeral_of whole all_of
number_more [] h ne = absurd (omega arith)
number_more (b ∷ []) h ne = absurd (omega arith)
number_more (b ∷ c ∷ bs) h ne = rw (ne_eqb b 48 ne)

module _ (n : ℕ) (s : List ℕ) (i : ℕ) where
  pub whole_step : i < length s → is_digit (get_or s i 0) ≡ true
      → whole n (drop i s) ≡ whole (n * 10 + (get_or s i 0 - 48)) (drop (i + 1) s)
  unfolding whole all_of
  whole_step h d = rw (add-one, drop-cons s i 0, d)

  pub whole_bad : i < length s → is_digit (get_or s i 0) ≡ false → whole n (drop i s) ≡ None
  unfolding whole all_of
  whole_bad h e = rw (drop-cons s i 0, e)

  pub whole_over : i < length s → 2 ^ 64 ≤ n * 10 + (get_or s i 0 - 48) → whole n (drop i s) ≡ None
  unfolding whole all_of
  whole_over h k =
      let l : 2 ^ 64 ≤ value (n * 10 + (get_or s i 0 - 48)) (drop (suc i) s) = omega
      (arith, value_grows (n * 10 + (get_or s i 0 - 48)) (drop (suc i) s)) in
      rw (drop-cons s i 0, le-ltb _ _ l, and-false)

  pub whole_end : length s ≤ i → n < 2 ^ 64 → whole n (drop i s) ≡ Some n
  unfolding whole all_of
  whole_end h k = rw (drop_of_length-le s h, lt-ltb n (2 ^ 64) k)
