-- A call's contract for the host from the library's: what the reply says, its record, and the library's equation.
use Rattle.words.proofs.Prelude.{◌≡◌, refl, sym, ap, ◌∙◌, ℕ, ◌*◌, List, drop}
use Rattle.std.specs.Prelude.{Result, Ok, Err}
use Rattle.words.proofs.CodedLaws.{entries_length}
use Rattle.entry.specs.{Limits.width, Change.change_code, Guards.Answer, Guards.said_by, declared.Refusal.Refusal}
use Rattle.snapshot.specs.Calls.{Outcome as Fold, outcome as fold, folded}
use Rattle.state_cache.specs.{State.Raw, State.raw, declared.IndexRecord.IndexRecord, Run.Outcome, Run.outcome, Run.settled}
use Rattle.state_cache.specs.Run.{changed, changed_at}
use Rattle.host.specs.{declared.Said.Said, declared.Reply.Reply, Plain.plain, Plain.a_number, Plain.left, Plain.said_of}
use Rattle.host.specs.{Plain.nothing, Plain.plainly, Plain.wrote, Plain.wrote_as, Plain.filled_as, Plain.reply_of}
use Rattle.reading.specs.{declared.Span.Span, Replies.span_is, Replies.span_says}
use Rattle.diff.specs.{declared.Diff.Diff, Replies.diff_said}
use Rattle.diff.specs.declared.Diff.TheVariants.{Nothing, Complete, Delta}
use Rattle.host.specs.Plain.{reply_by, tells, a_part, a_span, diff_told, a_diff}

-- what a reply tells is what its answer tells, read through what it says
pub told_by : {A B : Type 0} (g : B → Said) (f : A → B) (r : Result A Refusal)
    → said_of (λ (y : A). g (f y)) r ≡ plain g (said_by f r)
told_by g f (Ok y) = refl
told_by g f (Err r) = refl

-- of a call that changes nothing
pub carry_told : {A B : Type 0} (g : B → Said) (f : A → B) (r : Result A Refusal) {t : Said} {o : Answer B}
    → t ≡ said_of (λ (y : A). g (f y)) r → said_by f r ≡ o → t ≡ plain g o
carry_told g f r e q = e ∙ told_by g f r ∙ ap (plain g) q

-- and of one on the record where it stands, and the words beside it
pub carry_left : {A B : Type 0} (g : B → Said) (f : A → B) (r : Result A Refusal) {t : Said} {x : Raw} {o : Outcome B}
    → t ≡ said_of (λ (y : A). g (f y)) r → outcome (said_by f r) x ≡ o → left t x ≡ plainly g o
carry_left g f r {t} {x} {o} e q = ap (λ (u : Said). left u x) (e ∙ told_by g f r) ∙ ap (plainly g) q

-- a part of the log by its count, and a diff by its number of keys
pub part_told : (log : List ℕ) (p : Span) → a_part p ≡ a_span (span_is log p)
part_told log p = sym (ap (λ (n : ℕ). tells 1 p.first n) (entries_length change_code p.count (drop (p.first * width) log)))

pub span_told : (log : List ℕ) (r : Result Span Refusal) → said_of a_part r ≡ plain a_span (span_says log r)
span_told log (Ok p) = part_told log p
span_told log (Err r) = refl

pub diff_by : (out : List ℕ) (r : Result Diff Refusal) → said_of diff_told r ≡ plain a_diff (diff_said out r)
diff_by out (Ok (Nothing i)) = refl
diff_by out (Ok (Complete n i)) = sym (ap (λ (k : ℕ). tells 2 k i.0) (entries_length change_code n out))
diff_by out (Ok (Delta n i)) = sym (ap (λ (k : ℕ). tells 3 k i.0) (entries_length change_code n out))
diff_by out (Err r) = refl

module _ {A B : Type 0} (g : B → Said) (f : A → B) where
  replied_by : (i : IndexRecord) (r : Result (IndexRecord × A) Refusal) (l s : List ℕ)
      → left (reply_of (λ (y : A). g (f y)) i r).said (raw (reply_of (λ (y : A). g (f y)) i r).index l s)
      ≡ plainly g (changed_at f i r l s)
  replied_by i (Ok (next, y)) l s = refl
  replied_by i (Err r) l s = refl

  pub carry : (i : IndexRecord) (r : Result (IndexRecord × A) Refusal) {p : Reply} {l s : List ℕ} {o : Outcome B}
      → p ≡ reply_of (λ (y : A). g (f y)) i r → changed_at f i r l s ≡ o
      → left p.said (raw p.index l s) ≡ plainly g o
  carry i r {p} {l} {s} {o} e q =
      ap (λ (t : Reply). left t.said (raw t.index l s)) e ∙ replied_by i r l s ∙ ap (plainly g) q

-- the same of a call that has nothing more to say
settled_by : (i : IndexRecord) (r : Result IndexRecord Refusal) (l s : List ℕ)
    → left (reply_by i r).said (raw (reply_by i r).index l s) ≡ plainly nothing (changed i r l s)
settled_by i (Ok next) l s = refl
settled_by i (Err r) l s = refl

pub carry_settled : (i : IndexRecord) (r : Result IndexRecord Refusal) {p : Reply} {l s : List ℕ}
    {o : Outcome (Unit {0})} → p ≡ reply_by i r → changed i r l s ≡ o → left p.said (raw p.index l s) ≡ plainly nothing o
carry_settled i r {p} {l} {s} {o} e q =
    ap (λ (t : Reply). left t.said (raw t.index l s)) e ∙ settled_by i r l s ∙ ap (plainly nothing) q

-- of a snapshot that is written out, and of replies that are filled
pub carry_out : (r : Result ℕ Refusal) {t : Said} {out : List ℕ} {o : Fold} → t ≡ said_of a_number r
    → fold (folded r) out ≡ o → wrote t out ≡ wrote_as o
carry_out r {t} {out} e q =
    ap (λ (u : Said). wrote u out) (e ∙ told_by a_number (λ (n : ℕ). n) r) ∙ ap wrote_as q

pub carry_filled : (r : Result (Unit {0}) Refusal) {t : Said} {out : List ℕ} {o : Answer (Unit {0}) × List ℕ}
    → t ≡ said_of nothing r → (settled r, out) ≡ o → wrote t out ≡ filled_as o
carry_filled r {t} {out} e q =
    ap (λ (u : Said). wrote u out) (e ∙ told_by nothing (λ (u : Unit {0}). tt) r) ∙ ap filled_as q
