-- Tests that compute, and what they tell.
use Rattle.words.proofs.Prelude.{arith, ◌≡◌, refl, ℕ, ◌≤◌, ◌<◌, Bool, true, false, true≢false, ◌&&◌, ◌||◌, eqb}
use Rattle.words.proofs.Prelude.{ltb, leb, eqb-true, eqb-false, ltb-true, ltb-false, leb-true, leb-false}
use Rattle.words.proofs.Prelude.{if◌then◌else◌}
use mathlib.Core.Bool.{and-eq-true_iff}

-- the three ways in which two numbers stand
pub data Stand (a b : ℕ) : Type 0 where
  below : a < b → Stand a b
  same : a ≡ b → Stand a b
  above : b < a → Stand a b

pub stand : (a b : ℕ) → Stand a b
stand a b = first (ltb a b) refl
  where
    second : (t : Bool) → ltb a b ≡ false → eqb a b ≡ t → Stand a b
    second true n e = same (eqb-true a b e)
    second false n e = above (omega (arith, ltb-false a b n, eqb-false a b e))

    first : (t : Bool) → ltb a b ≡ t → Stand a b
    first true e = below (ltb-true a b e)
    first false e = second (eqb a b) e refl

-- whether one number reaches another
pub data Reach (a b : ℕ) : Type 0 where
  reached : a ≤ b → Reach a b
  short : b < a → Reach a b

pub reach : (a b : ℕ) → Reach a b
reach a b = go (leb a b) refl
  where
    go : (t : Bool) → leb a b ≡ t → Reach a b
    go true e = reached (leb-true a b e)
    go false e = short (leb-false a b e)

pub and_left : (a b : Bool) → (a && b) ≡ true → a ≡ true
and_left a b e = ((and-eq-true_iff a b).0 e).0

pub and_right : (a b : Bool) → (a && b) ≡ true → b ≡ true
and_right a b e = ((and-eq-true_iff a b).0 e).1

pub both_true : (a b : Bool) → a ≡ true → b ≡ true → (a && b) ≡ true
both_true a b p q = rw (p, q)

pub or_left : (a b : Bool) → (a || b) ≡ false → a ≡ false
or_left true b e = e
or_left false b e = refl

pub or_right : (a b : Bool) → (a || b) ≡ false → b ≡ false
or_right true b e = absurd (true≢false e)
or_right false b e = e

-- one of two, by a test
pub either : {A : Type 0} (P : A → Type 0) (t : Bool) (x y : A) → (t ≡ true → P x) → (t ≡ false → P y)
    → P (if t then x else y)
either P true x y p q = p refl
either P false x y p q = q refl
