-- Tests of a list's elements: of parts of a list, and as loops take them.
use Rattle.words.proofs.Prelude.{arith, ◌≡◌, refl, sym, ap, ◌∙◌, ℕ, zero, suc, ◌+◌, ◌≤◌, add-one, Bool}
use Rattle.words.proofs.Prelude.{true, false, and-true, ◌&&◌, eqb, eq-eqb, ne_eqb, eqb-true, eqb-false}
use Rattle.words.proofs.Prelude.{List, [], ◌∷◌, ◌++◌, drop_of_length-le, take-append-drop, length}
use Rattle.words.proofs.Prelude.{take, drop, replicate}
use mathlib.Core.Bool.{and_assoc}
use Rattle.std.specs.Prelude.{fold}
use lib.Bits.{bit_or, or_add_and, and_le_l, and_le_r}
use Rattle.words.specs.{All.all_of, Words.all_zero}
use Rattle.words.proofs.Tests.{and_left, and_right, both_true}

module _ {A : Type 0} (t : A → Bool) where
  pub all_head : (x : A) (l : List A) → all_of t (x ∷ l) ≡ true → t x ≡ true
  unfolding all_of
  all_head x l e = and_left (t x) (all_of t l) e

  pub all_tail : (x : A) (l : List A) → all_of t (x ∷ l) ≡ true → all_of t l ≡ true
  unfolding all_of
  all_tail x l e = and_right (t x) (all_of t l) e

  pub all_cons : (x : A) (l : List A) → t x ≡ true → all_of t l ≡ true → all_of t (x ∷ l) ≡ true
  unfolding all_of
  all_cons x l e f = both_true (t x) (all_of t l) e f

  pub all_append : (l m : List A) → all_of t (l ++ m) ≡ (all_of t l && all_of t m)
  unfolding all_of
  all_append [] m = refl
  all_append (x ∷ l) m = ap (λ (b : Bool). t x && b) (all_append l m) ∙ sym (and_assoc (t x) (all_of t l) (all_of t m))

  pub all_join : (l m : List A) → all_of t l ≡ true → all_of t m ≡ true → all_of t (l ++ m) ≡ true
  all_join l m e f = all_append l m ∙ both_true (all_of t l) (all_of t m) e f

  pub all_left : (l m : List A) → all_of t (l ++ m) ≡ true → all_of t l ≡ true
  all_left l m e = and_left (all_of t l) (all_of t m) (sym (all_append l m) ∙ e)

  pub all_right : (l m : List A) → all_of t (l ++ m) ≡ true → all_of t m ≡ true
  all_right l m e = and_right (all_of t l) (all_of t m) (sym (all_append l m) ∙ e)

  pub all_take : (n : ℕ) (l : List A) → all_of t l ≡ true → all_of t (take n l) ≡ true
  all_take n l e = all_left (take n l) (drop n l) (rw take-append-drop e)

  pub all_drop : (n : ℕ) (l : List A) → all_of t l ≡ true → all_of t (drop n l) ≡ true
  all_drop n l e = all_right (take n l) (drop n l) (rw take-append-drop e)

  -- A loop that keeps a flag and never leaves early: at i the flag and the test of the rest are together what is asked.
  module _ (l : List A) (i : ℕ) (ok asked : Bool) (so : (ok && all_of t (drop i l)) ≡ asked) where
    pub all_turn : (x : A) → drop i l ≡ x ∷ drop (suc i) l → (ok && t x && all_of t (drop (i + 1) l)) ≡ asked
    unfolding all_of
    all_turn x e = rw (add-one i)
        (and_assoc ok (t x) (all_of t (drop (suc i) l)) ∙ ap (λ (m : List A). ok && all_of t m) (sym e) ∙ so)

    pub all_end : length l ≤ i → ok ≡ asked
    unfolding all_of
    all_end h = sym (and-true ok) ∙ ap (λ (m : List A). ok && all_of t m) (sym (drop_of_length-le l {i = i} h)) ∙ so

  -- where one element alone passes, a list that passes is that element over and over
  module _ (b : A) where
    pub all_are : ((x : A) → t x ≡ true → x ≡ b) → (l : List A) → all_of t l ≡ true → l ≡ replicate (length l) b
    all_are known [] e = refl
    all_are known (x ∷ l) e =
        rw (known x (all_head x l e)) (ap (λ (r : List A). b ∷ r) (all_are known l (all_tail x l e)))

    pub all_pass : t b ≡ true → (n : ℕ) → all_of t (replicate n b) ≡ true
    unfolding all_of
    all_pass e zero = refl
    all_pass e (suc n) = all_cons b (replicate n b) e (all_pass e n)

-- Zeros: words are all zero where the `or` of them is.
or-zero : (a b : ℕ) (p q : Bool) → eqb a 0 ≡ p → eqb b 0 ≡ q → eqb (bit_or a b) 0 ≡ (p && q)
or-zero a b true true e f =
    eq-eqb (bit_or a b) 0 (omega (arith, or_add_and a b, eqb-true a 0 e, eqb-true b 0 f))
or-zero a b true false e f =
    ne_eqb (bit_or a b) 0 (λ h. eqb-false b 0 f (omega (arith, or_add_and a b, and_le_l a b, h)))
or-zero a b false q e f =
    ne_eqb (bit_or a b) 0 (λ h. eqb-false a 0 e (omega (arith, or_add_and a b, and_le_r a b, h)))

pub zero_fold : (l : List ℕ) (all : ℕ) → eqb (fold bit_or all l) 0 ≡ (eqb all 0 && all_zero l)
unfolding all_of
zero_fold [] all = sym (and-true (eqb all 0))
zero_fold (w ∷ l) all =
    zero_fold l (bit_or all w)
    ∙ ap (λ (b : Bool). b && all_zero l) (or-zero all w (eqb all 0) (eqb w 0) refl refl)
    ∙ and_assoc (eqb all 0) (eqb w 0) (all_zero l)

pub zeros_are : (l : List ℕ) → all_zero l ≡ true → l ≡ replicate (length l) 0
zeros_are l e = all_are (λ (w : ℕ). eqb w 0) 0 (λ x q. eqb-true x 0 q) l e

pub zeros_pass : (n : ℕ) → all_zero (replicate n 0) ≡ true
zeros_pass n = all_pass (λ (w : ℕ). eqb w 0) 0 refl n
