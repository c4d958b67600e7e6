-- Bytes put one after the other.
use Rattle.words.proofs.Prelude.{arith, ◌≡◌, sym, ap, ap₂, ◌∙◌, ℕ, ◌+◌, ◌≤◌, List, [], append_assoc, ◌++◌, length-drop}
use Rattle.words.proofs.Prelude.{length-append, take-append-drop, length, take, drop, length-take-le}
use lib.Seq.{take_at, drop_at, drop-append-add, drop-drop}
use Rattle.words.specs.Words.{spliced}
use Rattle.records.specs.Big.{big}
use Rattle.records.specs.Sealed.{sum_of, seal}

-- nothing put
pub splice_none : (s : List ℕ) (at : ℕ) → spliced at 0 [] s ≡ s
splice_none s at =
    let q : at + 0 ≡ at = omega arith in
    ap (λ (i : ℕ). take at s ++ drop i s) q ∙ take-append-drop at s

-- a part put back, as the prover has it
pub splice_part : (s ys : List ℕ) (at k n : ℕ) → k ≡ n → take at s ++ (ys ++ drop k (drop at s)) ≡ spliced at n ys s
splice_part s ys at k n e =
    ap (λ (l : List ℕ). take at s ++ (ys ++ l)) (drop-drop k at s ∙ ap (λ (m : ℕ). drop (at + m) s) e)

module _ (s : List ℕ) (at k : ℕ) (a : List ℕ) (here : length a ≡ k) (room : at + k ≤ length s) where
  head_length : length (take at s ++ a) ≡ at + k
  head_length = omega (arith, length-append (take at s) a, length-take-le at s (omega arith), here)

  whole : spliced at k a s ≡ take at s ++ a ++ drop (at + k) s
  whole = sym (append_assoc (take at s) a (drop (at + k) s))

  -- a second run behind the first
  pub splice_next : (j : ℕ) (b : List ℕ) → spliced (at + k) j b (spliced at k a s) ≡ spliced at (k + j) (a ++ b) s
  splice_next j b =
      let q : at + k + j ≡ at + (k + j) = omega arith in
      ap (spliced (at + k) j b) whole
      ∙ ap₂ (λ (x y : List ℕ). x ++ (b ++ y)) (take_at (take at s ++ a) (drop (at + k) s) (at + k) head_length) past
      ∙ ap (λ (n : ℕ). take at s ++ a ++ (b ++ drop n s)) q
      ∙ append_assoc (take at s) a (b ++ drop (at + (k + j)) s)
      ∙ ap (λ (l : List ℕ). take at s ++ l) (sym (append_assoc a b (drop (at + (k + j)) s)))
    where
      past : drop (at + k + j) (take at s ++ a ++ drop (at + k) s) ≡ drop (at + k + j) s
      past =
          ap (λ (n : ℕ). drop (n + j) (take at s ++ a ++ drop (at + k) s)) (sym head_length)
          ∙ drop-append-add (take at s ++ a) (drop (at + k) s) j
          ∙ drop-drop j (at + k) s

  -- the first is there
  splice_there : take k (drop at (spliced at k a s)) ≡ a
  splice_there =
      ap (take k) (drop_at (take at s) (a ++ drop (at + k) s) at (length-take-le at s (omega arith)))
      ∙ take_at a (drop (at + k) s) k here

  pub splice-length : length (spliced at k a s) ≡ length s
  splice-length =
      ap length whole
      ∙ length-append (take at s ++ a) (drop (at + k) s)
      ∙ omega (arith, head_length, length-drop (at + k) s)

  -- its sum behind it
  pub splice_sealed : (cur next : List ℕ) → cur ≡ spliced at k a s
      → next ≡ spliced (at + k) 2 (big 2 (sum_of (take k (drop at cur)))) cur → next ≡ spliced at (k + 2) (seal a) s
  splice_sealed cur next p q =
      q
      ∙ ap (λ (l : List ℕ). spliced (at + k) 2 (big 2 (sum_of (take k (drop at l)))) l) p
      ∙ ap (λ (l : List ℕ). spliced (at + k) 2 (big 2 (sum_of l)) (spliced at k a s)) splice_there
      ∙ splice_next 2 (big 2 (sum_of a))
