-- The first refusal of a list: one test at a time, and what is known once all tests pass, found by a refusal's number.
use Rattle.words.proofs.Prelude.{arith, ◌≡◌, refl, ◌∙◌, ℕ, Bool, true, false, eqb, if◌then◌else◌, List, [], ◌∷◌, ◌++◌}
use Rattle.entry.specs.Guards.{Guard, guard, Verdict, passes, refuses, first}

module _ (n k : ℕ) (t : Bool) (gs : List Guard) where
  pub first_refuses : t ≡ true → first (guard n k t ∷ gs) ≡ refuses n k
  unfolding first
  first_refuses e = rw e

  pub first_goes_on : t ≡ false → first (guard n k t ∷ gs) ≡ first gs
  unfolding first
  first_goes_on e = rw e

-- the first refusal of two lists, one after the other
pub first_left : (gs hs : List Guard) (n k : ℕ) → refuses n k ≡ first gs → refuses n k ≡ first (gs ++ hs)
unfolding first
first_left [] hs n k e = let z : ◌≡◌ {A = ℕ} 0 1 = cc in absurd (omega arith)
first_left (g ∷ gs) hs n k e = go g.applies e (λ q. first_left gs hs n k q)
  where
    go : (t : Bool) → refuses n k ≡ (if t then refuses g.number g.carried else first gs)
        → (refuses n k ≡ first gs → refuses n k ≡ first (gs ++ hs))
        → refuses n k ≡ (if t then refuses g.number g.carried else first (gs ++ hs))
    go true q ih = q
    go false q ih = ih q

pub first_right : (gs hs : List Guard) → passes ≡ first gs → first (gs ++ hs) ≡ first hs
unfolding first
first_right [] hs e = refl
first_right (g ∷ gs) hs e = go g.applies e (λ q. first_right gs hs q)
  where
    go : (t : Bool) → passes ≡ (if t then refuses g.number g.carried else first gs)
        → (passes ≡ first gs → first (gs ++ hs) ≡ first hs)
        → (if t then refuses g.number g.carried else first (gs ++ hs)) ≡ first hs
    go true q ih = let z : ◌≡◌ {A = ℕ} 0 1 = cc in absurd (omega arith)
    go false q ih = ih q

-- no refusal applies
abbrev pub Passed : List Guard → Type 0
Passed [] = Unit {0}
Passed (g ∷ gs) = (g.applies ≡ false) × Passed gs

pub passed : (gs : List Guard) → first gs ≡ passes → Passed gs
unfolding first
passed [] e = tt
passed (g ∷ gs) e = go (λ h. passed gs h) g.applies refl
  where
    no_pass : refuses g.number g.carried ≡ passes → ⊥
    no_pass z = let y : ◌≡◌ {A = ℕ} 0 1 = cc in omega arith

    go : (first gs ≡ passes → Passed gs) → (t : Bool) → g.applies ≡ t → (g.applies ≡ false) × Passed gs
    go ih true q = absurd (no_pass (rw q at e))
    go ih false q = (q, ih (rw q at e))

pub passed_right : (gs hs : List Guard) → Passed (gs ++ hs) → Passed hs
passed_right [] hs p = p
passed_right (g ∷ gs) hs p = passed_right gs hs p.1

-- the same by a refusal's number: `clr 6` says that refusal 6 does not apply, wherever it first stands in the list
abbrev pub Choose : Bool → Type 0 → Type 0 → Type 0
Choose true A B = A
Choose false A B = B

abbrev pub FactOf : ℕ → List Guard → Type 0
FactOf n [] = Unit {0}
FactOf n (g ∷ gs) = Choose (eqb n g.number) (g.applies ≡ false) (FactOf n gs)

abbrev pub Clear : List Guard → Type 0
Clear gs = (n : ℕ) → FactOf n gs

fact : (n : ℕ) (gs : List Guard) → Passed gs → FactOf n gs
fact n [] p = tt
fact n (g ∷ gs) p = go (eqb n g.number) (fact n gs p.1)
  where
    go : (t : Bool) → FactOf n gs → Choose t (g.applies ≡ false) (FactOf n gs)
    go true r = p.0
    go false r = r

pub clear : (gs : List Guard) → Passed gs → Clear gs
clear gs p n = fact n gs p

-- a verdict found test by test, as the code takes them
pub data Finds : List Guard → Verdict → Type 0 where
  clear_all : Finds [] passes
  passing : {g : Guard} {gs : List Guard} {v : Verdict} → g.applies ≡ false → Finds gs v → Finds (g ∷ gs) v
  stopping : {g : Guard} {gs : List Guard} {m : ℕ} → g.applies ≡ true → m ≡ g.carried
      → Finds (g ∷ gs) (refuses g.number m)

pub found : {gs : List Guard} {v : Verdict} → Finds gs v → v ≡ first gs
unfolding first
found clear_all = refl
found (passing e f) = found f ∙ rw e
found (stopping e q) = rw (e, q)
