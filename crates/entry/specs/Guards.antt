-- "Order, first that applies": a call's refusals as a list, the first that applies, and what a call answers.
use Rattle.std.specs.Prelude.{ℕ, Bool, List, [], ◌∷◌, if◌then◌else◌, Result, Ok, Err}
use Rattle.entry.specs.declared.Refusal.{Refusal}
use Rattle.entry.specs.Refusals.{number_of, carried_of}

-- a refusal's number, what it carries, and whether it applies
pub record Guard : Type 0 where
  pub applies : Bool
  pub number : ℕ
  pub carried : ℕ

abbrev pub guard : ℕ → ℕ → Bool → Guard
guard n k t = record { applies = t; number = n; carried = k }

pub data Verdict : Type 0 where
  passes : Verdict
  refuses : ℕ → ℕ → Verdict

unfoldable pub first : List Guard → Verdict
first [] = passes
first (g ∷ gs) = if g.applies then refuses g.number g.carried else first gs

-- a refusal's number and what it carries, or the reply of a call that stands
pub data Answer (A : Type 0) : Type 0 where
  refused : ℕ → ℕ → Answer A
  replied : A → Answer A

abbrev pub refused_by : {A : Type 0} → Refusal → Answer A
refused_by r = refused (number_of r) (carried_of r)

-- what a reply of the code's says, by what it says where it stands
abbrev pub said_by : {A B : Type 0} → (A → B) → Result A Refusal → Answer B
said_by f (Ok y) = replied (f y)
said_by f (Err r) = refused_by r

abbrev pub settle : {A : Type 0} → Verdict → A → Answer A
settle passes a = replied a
settle (refuses n k) a = refused n k
