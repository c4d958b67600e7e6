-- What the inner functions say: the first refusal of numbers, a call that moves no word, and what a batch comes to.
use Rattle.std.specs.Prelude.{ℕ, ◌+◌, ◌*◌, ◌≡◌, true, List, leb, eqb, length, if◌then◌else◌}
use Rattle.std.specs.Prelude.{Option as Optional, Some, None, Result, Ok, Err}
use Rattle.std.proofs.Math.Option.{Option, none, some}
use Rattle.entry.specs.Limits.{width}
use Rattle.entry.specs.Change.{entries_formed, entries_of}
use Rattle.entry.specs.Guards.{Verdict, passes, refuses, Answer, refused, replied, said_by}
use Rattle.entry.specs.Refusals.{number_of, carried_of}
use Rattle.entry.specs.declared.Refusal.{Refusal}
use Rattle.model.specs.Numbers.{accepted_of}
use Rattle.model.specs.Append.{Flushed}
use Rattle.state_cache.specs.State.{Raw, numbers_in}
use Rattle.state_cache.specs.Inner.{Ready, with_entries}
use Rattle.state_cache.specs.declared.IndexRecord.{IndexRecord}
use Rattle.internal_storage.specs.declared.Flushed.{Flushed as CodeFlushed}

abbrev pub verdict_of : Result (Unit {0}) Refusal → Verdict
verdict_of (Ok u) = passes
verdict_of (Err r) = refuses (number_of r) (carried_of r)

-- what a call that moves no word comes to: its answer and the record after it, by the first refusal that applies
pub record Indexed (A : Type 0) : Type 0 where
  pub answer : Answer A
  pub index : IndexRecord

abbrev pub indexed : {A : Type 0} → Answer A → IndexRecord → Indexed A
indexed a x = record { answer = a; index = x }

abbrev pub by_numbers : {A : Type 0} → Verdict → A → IndexRecord → IndexRecord → Indexed A
by_numbers passes y next x = indexed (replied y) next
by_numbers (refuses n k) y next x = indexed (refused n k) x

-- what one says that hands the record back: the record after it, and its reply beside it
abbrev pub next_at : {A B : Type 0} → (A → B) → Result (IndexRecord × A) Refusal → Answer (IndexRecord × B)
next_at {A} f r = said_by (λ (p : IndexRecord × A). (p.0, f p.1)) r

-- the record and the reply once n entries have joined the batch: flushed, all of it, or held
abbrev pub flushed_at : ℕ → IndexRecord → IndexRecord × Optional CodeFlushed
flushed_at n x =
    let next : IndexRecord = with_entries (x.retained + (x.batched + n)) 0 x in
    (next, Some (record { accepted = record { 0 = accepted_of (numbers_in next) }; entries = x.batched + n }))

abbrev pub held_at : ℕ → IndexRecord → IndexRecord × Optional CodeFlushed
held_at n x = (with_entries x.retained (x.batched + n) x, None)

unfoldable pub batched_with : ℕ → IndexRecord → IndexRecord × Optional CodeFlushed
batched_with n x = if leb x.batch_size (x.batched + n) then flushed_at n x else held_at n x

-- a flush of the whole batch: the record after it, and what was flushed, if anything was
abbrev pub all_flushed : IndexRecord → IndexRecord
all_flushed x = with_entries (x.retained + x.batched) 0 x

unfoldable pub flush_says : IndexRecord → Option Flushed
flush_says x =
    if eqb x.batched 0 then none
    else some (record { accepted = accepted_of (numbers_in (all_flushed x)); count = x.batched })

-- what an append needs, once its words are known to be n entries in form
pub record Appends (r : Raw) (n : ℕ) (entries : List ℕ) : Type 0 where
  pub ready : Ready r
  pub whole : length entries ≡ n * width
  pub fine : entries_formed (entries_of n entries) ≡ true
