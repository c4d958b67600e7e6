-- A line of more than `input_line` bytes is a bad line, whatever it says: a buffer of that size cuts nothing off that
-- means something.
use Rattle.words.proofs.Prelude.{arith, ◌≡◌, refl, sym, ap, ◌∙◌, ℕ, ◌+◌, ◌-◌, ◌*◌, ◌≤◌, ◌<◌, Bool, true, false, ◌&&◌}
use Rattle.words.proofs.Prelude.{not, eqb, ltb, leb, eqb-false, le-ltb, leb-true, if◌then◌else◌, List, [], ◌∷◌, length}
use Prim.{Native.Nat.◌^◌, Native.String.String}
use native.Mathlib.Nat.{mul_assoc, one-mul, pow-succ', pow-le-pow_right}
use lib.Dec.{lit<}
use Rattle.words.specs.All.{all_of}
use Rattle.words.proofs.Tests.{Reach, reached, short, reach, and_left, and_right}
use Rattle.words.proofs.Alls.{all_head}
use Rattle.text.specs.{Bytes.bytes, Rooms.most_digits, Rooms.input_line, Number.is_digit, Number.value, Number.plain}
use Rattle.text.specs.{Number.numeral_of, Parse.◌is◌, Parse.words, Parse.onto, Parse.bare_of, Parse.compact_of}
use Rattle.text.specs.{Parse.numbered_of, Parse.with_number, Parse.with_one, Parse.paired_of, Parse.with_numbers}
use Rattle.text.specs.{Parse.with_two, Parse.command_of, Parse.parse_of}
use Rattle.std.specs.Prelude.{Option, Some, None}
use Rattle.text.specs.{declared.Command.TheVariants.BadLine}
use Rattle.entry.specs.declared.Compaction.TheVariants.{Trim, Snapshot}
use Rattle.text.proofs.ParseLaws.{same_lengths}

-- the words of a line, each with a space after it, are as long as the line with one
total : List (List ℕ) → ℕ
total [] = 0
total (w ∷ ws) = length w + 1 + total ws

total_onto : (b : ℕ) (ws : List (List ℕ)) → 0 < total ws → total (onto b ws) ≡ total ws + 1
unfolding total
total_onto b [] h = absurd (omega arith)
total_onto b (w ∷ ws) h = omega arith

total_words : (xs : List ℕ) → total (words xs) ≡ length xs + 1
unfolding total
total_words [] = omega arith
total_words (b ∷ bs) = go (eqb b 32) (total_words bs)
  where
    go : (t : Bool) → total (words bs) ≡ length bs + 1
        → total (if t then [] ∷ words bs else onto b (words bs)) ≡ length (b ∷ bs) + 1
    go true e = omega arith
    go false e = omega (arith, total_onto b (words bs) (omega arith))

-- no name is longer than `decide`, and of those before two numbers none than `read`
off : (w : List ℕ) (t : String) → length (bytes t) < length w → (w is t) ≡ false
off w t h = same_lengths w (bytes t) (λ e. omega arith)

module _ (w : List ℕ) (h : length (bytes "decide") < length w) where
  long_bare : bare_of w ≡ BadLine
  unfolding bare_of
  long_bare = rw (off w "flush" (omega arith))

  long_numbered : (n : ℕ) → numbered_of w n ≡ BadLine
  unfolding numbered_of
  long_numbered n =
      rw (
        off w "batch" (omega arith),
        off w "del" (omega arith),
        off w "decide" (omega arith),
        off w "find" (omega arith),
        off w "stop" (omega arith),
      )

  long_number : (p : Option ℕ) → with_number w p ≡ BadLine
  long_number (Some n) = long_numbered n
  long_number None = refl

module _ (w : List ℕ) (h : length (bytes "read") < length w) where
  long_paired : (m n : ℕ) → paired_of w m n ≡ BadLine
  unfolding paired_of
  long_paired m n = rw (off w "put" (omega arith), off w "read" (omega arith))

  long_numbers : (p q : Option ℕ) → with_numbers w p q ≡ BadLine
  long_numbers (Some m) (Some n) = long_paired m n
  long_numbers (Some m) None = refl
  long_numbers None q = refl

-- no number has more than `most_digits` digits
tens : ℕ → List ℕ → ℕ
tens m [] = m
tens m (b ∷ bs) = tens (m * 10) bs

tens_power : (m : ℕ) (xs : List ℕ) → tens m xs ≡ m * 10 ^ length xs
unfolding tens
tens_power m [] = omega arith
tens_power m (b ∷ bs) = tens_power (m * 10) bs ∙ mul_assoc m 10 (10 ^ length bs)
    ∙ ap (λ (k : ℕ). m * k) (sym (pow-succ' 10 (length bs)))

tens_least : (m n : ℕ) (xs : List ℕ) → m ≤ n → tens m xs ≤ value n xs
unfolding tens
tens_least m n [] h = h
tens_least m n (b ∷ bs) h = tens_least (m * 10) (n * 10 + (b - 48)) bs (omega arith)

not-true : (t : Bool) → not t ≡ true → t ≡ false
not-true true e = sym e
not-true false e = refl

value_long : (xs : List ℕ) → most_digits < length xs → plain xs ≡ true → 2 ^ 64 ≤ value 0 xs
value_long [] h p = absurd (omega arith)
value_long (b ∷ []) h p = absurd (omega arith)
value_long (b ∷ c ∷ bs) h p =
    let all = and_right (not (eqb b 48)) (all_of is_digit (b ∷ c ∷ bs)) p in
    let d = leb-true 48 b (and_left (leb 48 b) (leb b 57) (all_head is_digit b (c ∷ bs) all)) in
    let z = eqb-false b 48 (not-true (eqb b 48) (and_left (not (eqb b 48)) (all_of is_digit (b ∷ c ∷ bs)) p)) in
    let g = tens_least 1 (0 * 10 + (b - 48)) (c ∷ bs) (omega arith) in
    let t = tens_power 1 (c ∷ bs) in
    let q = pow-le-pow_right {n = 10} (lit< tt) {i = most_digits} {j = length (c ∷ bs)} (omega arith) in
    omega (arith, g, t, q, one-mul (10 ^ length (c ∷ bs)))

number_long : (xs : List ℕ) → most_digits < length xs → numeral_of xs ≡ None
unfolding numeral_of
number_long xs h = go (plain xs) (value_long xs h)
  where
    go : (t : Bool) → (t ≡ true → 2 ^ 64 ≤ value 0 xs)
        → (if t && ltb (value 0 xs) (2 ^ 64) then Some (value 0 xs) else None) ≡ None
    go false f = refl
    go true f = rw (le-ltb (value 0 xs) (2 ^ 64) (f refl))

-- so a line of more bytes than such a name, two numbers and two spaces is none of the ten
second_long : (w : List ℕ) (p : Option ℕ) → with_numbers w p None ≡ BadLine
second_long w (Some m) = refl
second_long w None = refl

one_long : (w a : List ℕ) → most_digits < length a → with_one w a ≡ BadLine
unfolding with_one compact_of
one_long w a h = go (w is "snap") (w is "trim")
  where
    go : (t u : Bool)
        → (if t then compact_of Snapshot a else if u then compact_of Trim a else with_number w (numeral_of a)) ≡ BadLine
    go true u = rw (off a "all" (omega arith), number_long a h)
    go false true = rw (off a "all" (omega arith), number_long a h)
    go false false = rw (number_long a h)

one_other : (w a : List ℕ) → length (bytes "decide") < length w → with_one w a ≡ BadLine
unfolding with_one
one_other w a h = rw (off w "snap" (omega arith), off w "trim" (omega arith)) (long_number w h (numeral_of a))

long_one : (w a : List ℕ) → length (bytes "decide") + 1 + most_digits < length w + 1 + length a → with_one w a ≡ BadLine
long_one w a h = go (reach (length w) (length (bytes "decide")))
  where
    go : Reach (length w) (length (bytes "decide")) → with_one w a ≡ BadLine
    go (reached l) = one_long w a (omega arith)
    go (short l) = one_other w a l

long_two : (w a b : List ℕ) → input_line < length w + 1 + length a + 1 + length b → with_two w a b ≡ BadLine
long_two w a b h = go (reach (length w) (length (bytes "read"))) (reach (length a) most_digits)
  where
    go : Reach (length w) (length (bytes "read")) → Reach (length a) most_digits → with_two w a b ≡ BadLine
    go (short l) r = long_numbers w l (numeral_of a) (numeral_of b)
    go (reached l) (short k) = rw (number_long a k)
    go (reached l) (reached k) = rw (number_long b (omega arith)) (second_long w (numeral_of a))

long_words : (ws : List (List ℕ)) → input_line + 1 < total ws → command_of ws ≡ BadLine
unfolding total
long_words [] h = refl
long_words (w ∷ []) h = long_bare w (omega arith)
long_words (w ∷ a ∷ []) h = long_one w a (omega arith)
long_words (w ∷ a ∷ b ∷ []) h = long_two w a b (omega arith)
long_words (w ∷ a ∷ b ∷ c ∷ ws) h = refl

pub too_long : (line : List ℕ) → input_line < length line → parse_of line ≡ BadLine
unfolding parse_of
too_long line h = long_words (words line) (omega (arith, total_words line))
