-- Two replies of a diff that meet a claim, and the outputs beside them, are one.
use Rattle.words.proofs.Prelude.{arith, ◌≡◌, sym, ap, ap₂, ◌∙◌, ℕ, List, length}
use Rattle.std.specs.Prelude.{Result}
use Rattle.words.proofs.CodedLaws.{entries_length}
use Rattle.entry.specs.{Change.change_code, Change.entries_of, Guards.Answer, declared.Refusal.Refusal}
use Rattle.entry.proofs.RefusalLaws.{said_known}
use Rattle.model.specs.{Log.or_empty, Diff.plain, Diff.complete, Diff.delta, Diff.snapshot_in, Calls.Diff as Reply}
use Rattle.state_cache.proofs.Unique.{Known, index_known}
use Rattle.diff.specs.Replies.{told, diff_said, out_after}
use Rattle.diff.specs.declared.Diff.{Diff}
use Rattle.diff.specs.declared.Diff.TheVariants.{Nothing, Complete, Delta}

keys_known : (n m : ℕ) (out : List ℕ) → length (entries_of n out) ≡ length (entries_of m out) → n ≡ m
keys_known n m out e = sym (entries_length change_code n out) ∙ e ∙ entries_length change_code m out

-- what a reply tells: of which case it is, and its numbers
abbrev case_of : Reply → ℕ
case_of d = elim d.given [ plain ↦ 0 | complete s ↦ 1 | delta s ↦ 2 ]

abbrev upto_of : Reply → ℕ
upto_of d = d.upto

abbrev keys_of : Reply → ℕ
keys_of d = length (or_empty (snapshot_in d.given))

told_known : (out : List ℕ) → Known (told out)
told_known out (Nothing i) (Nothing j) e = ap Nothing (index_known i j (ap upto_of e))
told_known out (Nothing i) (Complete m j) e = absurd (omega (arith, ap case_of e))
told_known out (Nothing i) (Delta m j) e = absurd (omega (arith, ap case_of e))
told_known out (Complete n i) (Nothing j) e = absurd (omega (arith, ap case_of e))
told_known out (Complete n i) (Complete m j) e =
    ap₂ Complete (keys_known n m out (ap keys_of e)) (index_known i j (ap upto_of e))
told_known out (Complete n i) (Delta m j) e = absurd (omega (arith, ap case_of e))
told_known out (Delta n i) (Nothing j) e = absurd (omega (arith, ap case_of e))
told_known out (Delta n i) (Complete m j) e = absurd (omega (arith, ap case_of e))
told_known out (Delta n i) (Delta m j) e =
    ap₂ Delta (keys_known n m out (ap keys_of e)) (index_known i j (ap upto_of e))

pub diff_unique : (r q : Result Diff Refusal) (v w out : List ℕ) (claim : Answer Reply)
    → diff_said v r ≡ claim → v ≡ out_after claim out → diff_said w q ≡ claim → w ≡ out_after claim out
    → (r ≡ q) × (v ≡ w)
diff_unique r q v w out claim e f g h =
    let o : v ≡ w = f ∙ sym h in
    (said_known (told v) (told_known v) r q (e ∙ sym (ap (λ (u : List ℕ). diff_said u q) o ∙ g)), o)
