-- Two answers that meet a claim, and the states beside them, are one.
use Rattle.words.proofs.Prelude.{◌≡◌, refl, sym, ap, ap₂, ◌∙◌, List, ℕ, Bool}
use Rattle.std.specs.Prelude.{Result, Ok, Err}
use Rattle.entry.specs.{Guards.Answer, Guards.replied, declared.LogIndex.LogIndex, declared.Refusal.Refusal}
use Rattle.entry.proofs.RefusalLaws.{apart, refusal_known, said_known}
use Rattle.state_cache.specs.Run.{Outcome, outcome, index_at, index_said, flag, settled, changed, changed_at}
use Rattle.state_cache.specs.State.{Raw}
use Rattle.state_cache.specs.declared.IndexRecord.{IndexRecord}

-- an answer says which of the code's answers it is: of a call that changes nothing, two that meet a claim are one
abbrev pub Known : {E A : Type 0} → (E → A) → Type 0
Known {E} f = (a b : E) → f a ≡ f b → a ≡ b

pub index_known : Known index_at
index_known i j e = λ t. record { 0 = e t }

pub index_said_known : Known index_said
index_said_known = said_known index_at index_known

pub flag_known : Known flag
flag_known = said_known (λ (b : Bool). b) (λ a b e. e)

pub settled_known : Known settled
settled_known = said_known (λ (u : Unit {0}). tt) (λ a b e. refl)

-- of a call that may change the state, two that meet a claim, whatever its right side, are one, and so are the states
-- after them
abbrev pub Unique : {E A : Type 0} → (E → Answer A) → Type 0
Unique {E} {A} f = (a b : E) (r s : Raw) (claim : Outcome A) → outcome (f a) r ≡ claim → outcome (f b) s ≡ claim
    → (a ≡ b) × (r ≡ s)

pub unique : {E A : Type 0} (f : E → Answer A) → Known f → Unique f
unique {E} {A} f known a b r s claim e g =
    let o : outcome (f a) r ≡ outcome (f b) s = e ∙ sym g in
    (known a b (ap (λ (x : Outcome A). x.answer) o), ap (λ (x : Outcome A). x.after) o)

pub settled_unique : Unique settled
settled_unique = unique settled settled_known

pub index_said_unique : Unique index_said
index_said_unique = unique index_said index_said_known

-- the same of a call by value, which hands the record back where it stands: where it is refused the record is the one
-- that was lent
module _ (old : IndexRecord) (l m s t : List ℕ) where
  module _ {A : Type 0} (o p : Outcome A) (e : o ≡ p) where
    words_same : (o.after.log ≡ p.after.log) × (o.after.snapshot ≡ p.after.snapshot)
    words_same = (ap (λ (x : Outcome A). x.after.log) e, ap (λ (x : Outcome A). x.after.snapshot) e)

    index_same : o.after.index ≡ p.after.index
    index_same = ap (λ (x : Outcome A). x.after.index) e

    answer_same : o.answer ≡ p.answer
    answer_same = ap (λ (x : Outcome A). x.answer) e

  pub changed_unique : (a b : Result IndexRecord Refusal) → changed old a l s ≡ changed old b m t
      → (a ≡ b) × ((l ≡ m) × (s ≡ t))
  changed_unique (Ok x) (Ok y) e = (ap Ok (index_same _ _ e), words_same _ _ e)
  changed_unique (Ok x) (Err r) e = apart _ _ _ (answer_same _ _ e)
  changed_unique (Err r) (Ok y) e = apart _ _ _ (sym (answer_same _ _ e))
  changed_unique (Err r) (Err q) e = (ap Err (refusal_known r q (answer_same _ _ e)), words_same _ _ e)

  module _ {A B : Type 0} (f : A → B) (known : Known f) where
    replied_same : (y w : B) → replied y ≡ replied w → y ≡ w
    replied_same y w e = cc

    pub changed_at_unique : (a b : Result (IndexRecord × A) Refusal) → changed_at f old a l s ≡ changed_at f old b m t
        → (a ≡ b) × ((l ≡ m) × (s ≡ t))
    changed_at_unique (Ok (x, y)) (Ok (z, w)) e =
        let i : x ≡ z = index_same _ _ e in
        let k : y ≡ w = known y w (replied_same (f y) (f w) (answer_same _ _ e)) in
        (ap₂ (λ (v : IndexRecord) (u : A). Ok (v, u)) i k, words_same _ _ e)
    changed_at_unique (Ok (x, y)) (Err r) e = apart _ _ _ (answer_same _ _ e)
    changed_at_unique (Err r) (Ok (z, w)) e = apart _ _ _ (sym (answer_same _ _ e))
    changed_at_unique (Err r) (Err q) e = (ap Err (refusal_known r q (answer_same _ _ e)), words_same _ _ e)

  -- of the calls that say the accepted index beside the record
  pub index_answer_unique : (a b : Result (IndexRecord × LogIndex) Refusal)
      → changed_at index_at old a l s ≡ changed_at index_at old b m t → (a ≡ b) × ((l ≡ m) × (s ≡ t))
  index_answer_unique = changed_at_unique index_at index_known
