-- A refusal is known by its number and what it carries: two that agree in both are one. So is a reply by what it says.
use Rattle.words.proofs.Prelude.{arith, ◌≡◌, refl, sym, ap, ap₂, ◌∙◌, ℕ, eqb, if◌then◌else◌}
use Rattle.std.specs.Prelude.{Result, Ok, Err, IsErrAnd}
use Rattle.entry.specs.declared.Refusal.{Refusal}
use Rattle.entry.specs.declared.Refusal.TheVariants.{NoRoom, AboveDecided, BelowCompacted, Stopped, BelowDecided}
use Rattle.entry.specs.declared.Refusal.TheVariants.{AboveAccepted, OutsideRun, TooManyKeys, PastLastIndex}
use Rattle.entry.specs.declared.Refusal.TheVariants.{BatchHeld, Malformed, IllFormed, OutputShort, UnknownFormat}
use Rattle.entry.specs.declared.Refusal.TheVariants.{Damaged, Hole, OutgoingShort, AtLargest, RepliesFull}
use Rattle.entry.specs.Refusals.{number_of, carried_of}
use Rattle.entry.specs.Guards.{refused, replied, refused_by, said_by}

refusal_of : ℕ → ℕ → Refusal
refusal_of n k =
    if eqb n 1 then NoRoom
    else if eqb n 2 then AboveDecided (record { 0 = k })
    else if eqb n 3 then BelowCompacted (record { 0 = k })
    else if eqb n 4 then Stopped (record { 0 = k })
    else if eqb n 5 then BelowDecided (record { 0 = k })
    else if eqb n 6 then AboveAccepted (record { 0 = k })
    else if eqb n 7 then OutsideRun (record { 0 = k })
    else if eqb n 8 then TooManyKeys
    else if eqb n 9 then PastLastIndex (record { 0 = k })
    else if eqb n 10 then BatchHeld k
    else if eqb n 11 then Malformed
    else if eqb n 12 then IllFormed
    else if eqb n 13 then OutputShort
    else if eqb n 14 then UnknownFormat
    else if eqb n 15 then Damaged k
    else if eqb n 16 then Hole
    else if eqb n 18 then OutgoingShort
    else if eqb n 19 then AtLargest
    else RepliesFull

refusal_of_lem : (r : Refusal) → refusal_of (number_of r) (carried_of r) ≡ r
unfolding refusal_of
refusal_of_lem NoRoom = refl
refusal_of_lem (AboveDecided i) = refl
refusal_of_lem (BelowCompacted i) = refl
refusal_of_lem (Stopped i) = refl
refusal_of_lem (BelowDecided i) = refl
refusal_of_lem (AboveAccepted i) = refl
refusal_of_lem (OutsideRun i) = refl
refusal_of_lem TooManyKeys = refl
refusal_of_lem (PastLastIndex i) = refl
refusal_of_lem (BatchHeld n) = refl
refusal_of_lem Malformed = refl
refusal_of_lem IllFormed = refl
refusal_of_lem OutputShort = refl
refusal_of_lem UnknownFormat = refl
refusal_of_lem (Damaged at) = refl
refusal_of_lem Hole = refl
refusal_of_lem OutgoingShort = refl
refusal_of_lem AtLargest = refl
refusal_of_lem RepliesFull = refl

pub refusal_known : {A : Type 0} (r q : Refusal) → refused_by {A = A} r ≡ refused_by q → r ≡ q
refusal_known r q e =
    let n : number_of r ≡ number_of q = cc in
    let k : carried_of r ≡ carried_of q = cc in
    sym (refusal_of_lem r) ∙ ap₂ refusal_of n k ∙ refusal_of_lem q

-- a reply is no refusal
pub apart : {A : Type 0} {B : Type 0} (y : A) (n k : ℕ) → replied y ≡ refused n k → B
apart y n k e = let z : ◌≡◌ {A = ℕ} 0 1 = cc in absurd (omega arith)

-- two replies of the code's that say the same are one, where what they say where they stand tells them apart
pub said_known : {A B : Type 0} (f : A → B) → ((a b : A) → f a ≡ f b → a ≡ b)
    → (r q : Result A Refusal) → said_by f r ≡ said_by f q → r ≡ q
said_known f known (Ok a) (Ok b) e = ap Ok (known a b cc)
said_known f known (Ok a) (Err y) e = apart _ _ _ e
said_known f known (Err x) (Ok b) e = apart _ _ _ (sym e)
said_known f known (Err x) (Err y) e = ap Err (refusal_known x y e)

-- `?` hands an error up as it is
pub passed_up : {T E : Type 0} (r : Result T E) (e : E) → IsErrAnd r (λ y. y ≡ e) → r ≡ Err e
passed_up (Ok x) e h = absurd h
passed_up (Err y) e h = ap Err h
