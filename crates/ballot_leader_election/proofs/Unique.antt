-- Two replies that meet a call's claim are one, and so is the state after them.
use Rattle.words.proofs.Prelude.{arith, ◌≡◌, sym, ap, ap₂, ◌∙◌, ℕ}
use Rattle.std.specs.Prelude.{Some, None, Result, Ok, Err}
use Rattle.entry.specs.{Guards.Answer, Guards.replied, declared.Refusal.Refusal}
use Rattle.entry.proofs.RefusalLaws.{apart, refusal_known, said_known}
use Rattle.ballot_leader_election.specs.declared.BallotLeaderElection.{BallotLeaderElection}
use Rattle.ballot_leader_election.specs.Run.{Outcome, outcome, ballot_is, told, changed, changed_at}

-- a reply is known by what it says
abbrev pub Known : {E A : Type 0} → (E → A) → Type 0
Known {E} f = (a b : E) → f a ≡ f b → a ≡ b

pub ballot_known : Known ballot_is
ballot_known (Some a) (Some b) e = cc
ballot_known (Some a) None e = let z : ◌≡◌ {A = ℕ} 0 1 = cc in absurd (omega arith)
ballot_known None (Some b) e = let z : ◌≡◌ {A = ℕ} 0 1 = cc in absurd (omega arith)
ballot_known None None e = cc

pub told_known : {A : Type 0} → Known (told {A = A})
told_known = said_known (λ y. y) (λ a b e. e)

module _ {A : Type 0} {o p : Outcome A} (e : o ≡ p) where
  answer_same : o.answer ≡ p.answer
  answer_same = ap (λ (x : Outcome A). x.answer) e

  after_same : o.after ≡ p.after
  after_same = ap (λ (x : Outcome A). x.after) e

-- beside a state
pub unique : {E A : Type 0} (f : E → Answer A) → Known f → (a b : E) (r s : BallotLeaderElection) (claim : Outcome A)
    → outcome (f a) r ≡ claim → outcome (f b) s ≡ claim → (a ≡ b) × (r ≡ s)
unique f known a b r s claim e g =
    let o : outcome (f a) r ≡ outcome (f b) s = e ∙ sym g in (known a b (answer_same o), after_same o)

-- of a call that hands the state back, alone or with a reply beside it; where it is refused that is the one that was lent
module _ (old : BallotLeaderElection) where
  pub changed_unique : (a b : Result BallotLeaderElection Refusal) → changed old a ≡ changed old b → a ≡ b
  changed_unique (Ok x) (Ok y) e = ap Ok (after_same e)
  changed_unique (Ok x) (Err r) e = apart _ _ _ (answer_same e)
  changed_unique (Err r) (Ok y) e = apart _ _ _ (sym (answer_same e))
  changed_unique (Err r) (Err q) e = ap Err (refusal_known r q (answer_same e))

  module _ {A B : Type 0} (f : A → B) (known : Known f) where
    replied_same : (y w : B) → replied y ≡ replied w → y ≡ w
    replied_same y w e = cc

    pub changed_at_unique : (a b : Result (BallotLeaderElection × A) Refusal) → changed_at f old a ≡ changed_at f old b
        → a ≡ b
    changed_at_unique (Ok (x, y)) (Ok (z, w)) e =
        let i : x ≡ z = after_same e in
        let k : y ≡ w = known y w (replied_same (f y) (f w) (answer_same e)) in
        ap₂ (λ (v : BallotLeaderElection) (u : A). Ok (v, u)) i k
    changed_at_unique (Ok (x, y)) (Err r) e = apart _ _ _ (answer_same e)
    changed_at_unique (Err r) (Ok (z, w)) e = apart _ _ _ (sym (answer_same e))
    changed_at_unique (Err r) (Err q) e = ap Err (refusal_known r q (answer_same e))
