-- Answers as the host reads them: numbers, and nothing that Rust or C would have to know of an enum.
use Rattle.std.specs.Prelude.{ℕ, Bool, List, length, Result, Ok, Err}
use Rattle.std.proofs.Math.Option.{Option, none, some}
use Rattle.entry.specs.Change.{Said as Word, place, removed}
use Rattle.entry.specs.Guards.{Answer, refused, replied, refused_by}
use Rattle.snapshot.specs.Calls.{Outcome as Fold}
use Rattle.model.specs.Append.{Flushed}
use Rattle.model.specs.Read.{Span}
use Rattle.model.specs.Diff.{plain as given, complete, delta}
use Rattle.model.specs.Calls.{Diff}
use Rattle.state_cache.specs.State.{Raw, one_if}
use Rattle.state_cache.specs.Run.{Outcome}
use Rattle.reading.specs.declared.Span.{Span as CodeSpan}
use Rattle.diff.specs.declared.Diff.{Diff as CodeDiff}
use Rattle.diff.specs.declared.Diff.TheVariants.{Nothing, Complete, Delta}
use Rattle.state_cache.specs.declared.IndexRecord.{IndexRecord}
use Rattle.entry.specs.declared.Refusal.{Refusal}
use Rattle.host.specs.declared.Said.{Said}
use Rattle.host.specs.declared.Reply.{Reply}

-- a call that stands: what kind of thing it tells (0 for nothing), and up to two numbers
abbrev pub tells : ℕ → ℕ → ℕ → Said
tells k a b = record { number = 0; carried = 0; told = k; first = a; second = b }

-- any answer: a refusal's number and what it carries, or what the reply tells
abbrev pub plain : {A : Type 0} → (A → Said) → Answer A → Said
plain f (refused n k) = record { number = n; carried = k; told = 0; first = 0; second = 0 }
plain f (replied a) = f a

-- what each kind of reply tells
abbrev pub nothing : Unit {0} → Said
nothing u = tells 0 0 0

abbrev pub a_number : ℕ → Said
a_number n = tells 1 n 0

abbrev pub a_flag : Bool → Said
a_flag b = tells 1 (one_if b) 0

abbrev pub maybe_number : Option ℕ → Said
maybe_number none = tells 0 0 0
maybe_number (some n) = tells 1 n 0

-- 0 unknown, 1 a place, 2 removed
abbrev pub a_word : Option Word → Said
a_word none = tells 0 0 0
a_word (some (place p)) = tells 1 p 0
a_word (some removed) = tells 2 0 0

abbrev pub maybe_flushed : Option Flushed → Said
maybe_flushed none = tells 0 0 0
maybe_flushed (some f) = tells 1 f.accepted f.count

-- a part of the lent log: its first entry, and how many
abbrev pub a_span : Span → Said
a_span p = tells 1 p.first (length p.entries)

abbrev pub a_diff : Diff → Said
a_diff d =
    elim d.given [
      | given ↦ tells 1 0 d.upto
      | complete s ↦ tells 2 (length s) d.upto
      | delta s ↦ tells 3 (length s) d.upto
    ]

-- the same two as the code has them
abbrev pub a_part : CodeSpan → Said
a_part s = tells 1 s.first s.count

abbrev pub diff_told : CodeDiff → Said
diff_told (Nothing i) = tells 1 0 i.0
diff_told (Complete n i) = tells 2 n i.0
diff_told (Delta n i) = tells 3 n i.0

-- what a reply of the code's says, by what it tells where it stands; and with the record after it, which is the one that
-- was lent where the call is refused
abbrev pub said_of : {A : Type 0} → (A → Said) → Result A Refusal → Said
said_of f (Ok y) = f y
said_of f (Err r) = plain nothing (refused_by r)

abbrev pub reply_of : {A : Type 0} → (A → Said) → IndexRecord → Result (IndexRecord × A) Refusal → Reply
reply_of f lent (Ok (next, y)) = record { said = f y; index = next }
reply_of f lent (Err r) = record { said = plain nothing (refused_by r); index = lent }

abbrev pub reply_by : IndexRecord → Result IndexRecord Refusal → Reply
reply_by lent (Ok next) = record { said = tells 0 0 0; index = next }
reply_by lent (Err r) = record { said = plain nothing (refused_by r); index = lent }

-- what a call leaves: what it said, and the state after it
pub record Left : Type 0 where
  pub said : Said
  pub after : Raw

abbrev pub left : Said → Raw → Left
left s r = record { said = s; after = r }

abbrev pub plainly : {A : Type 0} → (A → Said) → Outcome A → Left
plainly f o = left (plain f o.answer) o.after

-- the same of a call that writes a snapshot out
pub record Wrote : Type 0 where
  pub said : Said
  pub output : List ℕ

abbrev pub wrote : Said → List ℕ → Wrote
wrote s out = record { said = s; output = out }

abbrev pub wrote_as : Fold → Wrote
wrote_as o = wrote (plain a_number o.answer) o.output

-- and of one that fills replies
abbrev pub filled_as : Answer (Unit {0}) × List ℕ → Wrote
filled_as o = wrote (plain nothing o.0) o.1
