-- Two replies that meet a claim, and the outputs beside them, are one.
use Rattle.words.proofs.Prelude.{◌≡◌, sym, ap, ◌∙◌, ℕ, List}
use Rattle.std.specs.Prelude.{Option, Result}
use Rattle.entry.specs.{Reply.known_is, declared.Refusal.Refusal, declared.Said.Said}
use Rattle.entry.proofs.{RefusalLaws.said_known, ReplyLaws.known_unique}
use Rattle.snapshot.specs.{Calls.Outcome, Calls.outcome, Calls.folded, Calls.found}

folded_known : (r q : Result ℕ Refusal) → folded r ≡ folded q → r ≡ q
folded_known = said_known (λ (n : ℕ). n) (λ a b e. e)

pub find_unique : (r q : Result (Option Said) Refusal) → found r ≡ found q → r ≡ q
find_unique = said_known known_is known_unique

-- of `fold` and of `merge`, whatever the claim's right side
pub fold_unique : (r q : Result ℕ Refusal) (v w : List ℕ) (claim : Outcome) → outcome (folded r) v ≡ claim
    → outcome (folded q) w ≡ claim → (r ≡ q) × (v ≡ w)
fold_unique r q v w claim e f =
    let o : outcome (folded r) v ≡ outcome (folded q) w = e ∙ sym f in
    (folded_known r q (ap (λ (x : Outcome). x.answer) o), ap (λ (x : Outcome). x.output) o)
