-- What a call comes to: of any state and any request, its answer and the state after it. Every exported call is an
-- equation with `run`.
use Rattle.std.specs.Prelude.{ℕ, Bool, ◌&&◌, not, List, ◌∷◌, leb, eqb, length, if◌then◌else◌, Result, Ok, Err}
use Rattle.entry.specs.Limits.{largest_batch, log_words, snapshot_words}
use Rattle.entry.specs.Guards.{guard, Verdict, passes, refuses, first, Answer, refused, replied, refused_by, said_by}
use Rattle.entry.specs.declared.Refusal.{Refusal}
use Rattle.entry.specs.declared.LogIndex.{LogIndex}
use Rattle.model.specs.Numbers.{Numbers}
use Rattle.model.specs.Log.{fresh_log}
use Rattle.model.specs.Calls.{Call, Reply, guards, effect, reply_of}
use Rattle.state_cache.specs.State.{Raw, raw, numbers_in, formed, log_of, index_of, raw_of}
use Rattle.state_cache.specs.declared.IndexRecord.{IndexRecord}

pub record Outcome (A : Type 0) : Type 0 where
  pub answer : Answer A
  pub after : Raw

abbrev pub outcome : {A : Type 0} → Answer A → Raw → Outcome A
outcome a r = record { answer = a; after = r }

-- "No refusal changes anything lent": the verdict chooses, and where it refuses the state after is the state before,
-- to the word
abbrev pub chosen : {A : Type 0} → Verdict → A → Raw → Raw → Outcome A
chosen passes y next r = outcome (replied y) next
chosen (refuses n k) y next r = outcome (refused n k) r

-- 12 of the state as it is lent; 11 where the lent words are not whole entries, or a slice beside them has another
-- length than it should (`whole` is then false); then the model's refusals
unfoldable pub verdict_on : Call → Bool → Raw → Verdict
verdict_on c whole r = first (guard 12 0 (not (formed r)) ∷ guard 11 0 (not whole) ∷ guards c (log_of r))

unfoldable pub run : (c : Call) → Bool → Raw → Outcome (Reply c)
run c whole r = chosen (verdict_on c whole r) (reply_of c (log_of r)) (raw_of (effect c (log_of r))) r

-- what a question about the numbers of a state comes to: 12, or what they say; nothing changes
unfoldable pub of_numbers : {A : Type 0} → (Numbers → A) → Raw → Answer A
of_numbers f r = if formed r then replied (f (numbers_in r.index)) else refused 12 0

-- what the code's replies say of a call that changes nothing
abbrev pub index_at : LogIndex → ℕ
index_at i = i.0

abbrev pub index_said : Result LogIndex Refusal → Answer ℕ
index_said r = said_by index_at r

abbrev pub flag : Result Bool Refusal → Answer Bool
flag r = said_by (λ (b : Bool). b) r

abbrev pub settled : Result (Unit {0}) Refusal → Answer (Unit {0})
settled r = said_by (λ (u : Unit {0}). tt) r

-- and of one that may change the record and the words beside it, of which it hands the record back: where it is refused
-- that stays as it was lent
abbrev pub changed : IndexRecord → Result IndexRecord Refusal → List ℕ → List ℕ → Outcome (Unit {0})
changed old (Ok next) log snapshot = outcome (replied tt) (raw next log snapshot)
changed old (Err r) log snapshot = outcome (refused_by r) (raw old log snapshot)

-- the same with a reply beside the record
abbrev pub changed_at : {A B : Type 0} → (A → B) → IndexRecord → Result (IndexRecord × A) Refusal → List ℕ → List ℕ
    → Outcome B
changed_at f old (Ok (next, y)) log snapshot = outcome (replied (f y)) (raw next log snapshot)
changed_at f old (Err r) log snapshot = outcome (refused_by r) (raw old log snapshot)

-- a fresh log: 11 for a batch size above 64 or a slice of wrong length; there is no record yet, and the one beside a
-- refusal, which the boundary hands back, is that of a log with batch size 0
unfoldable pub fresh_call : ℕ → List ℕ → List ℕ → Outcome (Unit {0})
fresh_call n log snapshot =
    if leb n largest_batch && (eqb (length log) log_words && eqb (length snapshot) snapshot_words)
    then outcome (replied tt) (raw_of (fresh_log n))
    else outcome (refused 11 0) (raw (index_of (fresh_log 0)) log snapshot)
