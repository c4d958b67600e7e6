-- `text::inner::put_refused` meets its contract: two texts, one after the other.
use Rattle.words.proofs.Prelude.{rules}
use Rattle.words.proofs.Prelude.{◌≡◌, ap, ◌∙◌, ℕ, List, [], append-nil, append_assoc, ◌++◌, take}
use Rattle.text.specs.{Bytes.bytes, Answers.decimal_of, Refusing.why_text, Refusing.refused_text}
use Rattle.text.proofs.inner.put_refused.Goals as goal

glue : {t₁ t₂ : List ℕ} (before word number why : List ℕ) → t₁ ≡ before ++ (word ++ number ++ []) → t₂ ≡ t₁ ++ why
    → t₂ ≡ before ++ (word ++ number ++ why)
glue before word number why p q = q ∙ ap (λ (t : List ℕ). t ++ why) p ∙ simp (append_assoc, append-nil)

pub returns : goal.returns
unfolding refused_text
returns c =
    let why = c.put_why in
    let refused = c.put_one-a in
    record {
      upper_bound = search rules;
      out_after = glue (take c.args.at c.args.out.now) (bytes "refused ") (decimal_of c.args.number) (why_text c.args.number c.args.carried)
          refused.ensures.out_after why.ensures.out_after;
    }
