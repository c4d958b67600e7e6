-- Laws on words that are moved, pasted and laid out, at any capacity.
use Rattle.words.proofs.Prelude.{arith, ◌≡◌, refl, sym, ap, ◌∙◌, ℕ, suc, ◌+◌, ◌-◌, ◌≤◌, ◌<◌, List}
use Rattle.words.proofs.Prelude.{[], ◌∷◌, append-nil, append_assoc, ◌++◌, length-drop, length-take}
use Rattle.words.proofs.Prelude.{length-append, drop_of_length-le, length, take, drop, replicate}
use Rattle.words.proofs.Prelude.{length-take-le, take_all}
use native.Mathlib.Nat.{sub-zero}
use lib.ListN.{set, length-replicate, replicate-append-replicate}
use Rattle.std.proofs.lemmas.{List.Edits.paste_all, Slice.between_is}
use lib.Seq.{paste, take_at, drop_at, set_at}
use lib.Seq.{take-take, drop-drop, take-length, append_snoc}
use Rattle.words.specs.Words.{padded, laid, spliced}

take_paste_at : (d : List ℕ) (at : ℕ) (s : List ℕ) (n : ℕ) → at ≤ length d → take at (paste d at s n) ≡ take at d
take_paste_at d at s n hd =
    ap (λ (l : List ℕ). take at l) (append_assoc (take at d) (take n s) (drop (at + n) d))
    ∙ take_at (take at d) (take n s ++ drop (at + n) d) at (length-take-le at d hd)

drop_paste_at : (d : List ℕ) (at : ℕ) (s : List ℕ) (n : ℕ) → at ≤ length d
    → drop at (paste d at s n) ≡ take n s ++ drop (at + n) d
drop_paste_at d at s n hd =
    ap (λ (l : List ℕ). drop at l) (append_assoc (take at d) (take n s) (drop (at + n) d))
    ∙ drop_at (take at d) (take n s ++ drop (at + n) d) at (length-take-le at d hd)

-- a list that is padded: as long as its place, the elements at its front, blanks after them; and one more element
module _ {A : Type 0} (blank : A) where
  pub take_padded : (n : ℕ) (xs : List A) → take (length xs) (padded blank n xs) ≡ xs
  take_padded n xs = take_at xs (replicate (n - length xs) blank) (length xs) refl

  pub drop_padded : (n : ℕ) (xs : List A) → drop (length xs) (padded blank n xs) ≡ replicate (n - length xs) blank
  drop_padded n xs = drop_at xs (replicate (n - length xs) blank) (length xs) refl

  pub length-padded : (n : ℕ) (xs : List A) → length xs ≤ n → length (padded blank n xs) ≡ n
  length-padded n xs h =
      length-append xs (replicate (n - length xs) blank)
      ∙ ap (λ (m : ℕ). length xs + m) (length-replicate (n - length xs) blank)
      ∙ omega arith

  pub padded_more : (n : ℕ) (xs : List A) (x : A) → length xs < n
      → set (padded blank n xs) (length xs) x ≡ padded blank n (xs ++ x ∷ [])
  padded_more n xs x h =
      let e : n - length xs ≡ suc (n - length (xs ++ x ∷ [])) = simp length-append (omega arith) in
      ap (λ (m : ℕ). set (xs ++ replicate m blank) (length xs) x) e
      ∙ set_at xs blank (replicate (n - length (xs ++ x ∷ [])) blank) x (length xs) refl
      ∙ sym (append_snoc xs x (replicate (n - length (xs ++ x ∷ [])) blank))

-- the first n words of a list that is laid out are the words; past them are zeros
pub drop_laid : (n k : ℕ) (ws : List ℕ) → length ws ≤ k → k ≤ n → drop k (laid n ws) ≡ replicate (n - k) 0
unfolding laid
drop_laid n k ws h hk =
    let e : length ws + (k - length ws) ≡ k = omega arith in
    let e₂ : n - length ws ≡ (k - length ws) + (n - k) = omega arith in
    ap (λ (m : ℕ). drop k (ws ++ replicate m 0)) e₂
    ∙ ap (λ (l : List ℕ). drop k (ws ++ l)) (sym (replicate-append-replicate (k - length ws) (n - k) 0))
    ∙ ap (λ (l : List ℕ). drop k l) (sym (append_assoc ws (replicate (k - length ws) 0) (replicate (n - k) 0)))
    ∙ drop_at (ws ++ replicate (k - length ws) 0) (replicate (n - k) 0) k
    (length-append ws (replicate (k - length ws) 0)
    ∙ ap (λ (m : ℕ). length ws + m) (length-replicate (k - length ws) 0) ∙ e)

pub take_laid : (n : ℕ) (ws : List ℕ) → take (length ws) (laid n ws) ≡ ws
unfolding laid
take_laid n ws = take_padded 0 n ws

pub length_laid : (n : ℕ) (ws : List ℕ) → length ws ≤ n → length (laid n ws) ≡ n
unfolding laid
length_laid n ws h = length-padded 0 n ws h

-- a part of a front is a front of what follows
pub drop-take : {A : Type 0} (i j : ℕ) (l : List A) → drop i (take j l) ≡ take (j - i) (drop i l)
drop-take i j l = sym (between_is l i j)

-- zeros, and zeros after them
pub laid_twice : (n z : ℕ) (ws : List ℕ) → length ws + z ≤ n
    → ws ++ replicate z 0 ++ replicate (n - (length ws + z)) 0 ≡ laid n ws
unfolding laid
laid_twice n z ws h =
    let e : z + (n - (length ws + z)) ≡ n - length ws = omega arith in
    append_assoc ws (replicate z 0) (replicate (n - (length ws + z)) 0)
    ∙ ap (λ (l : List ℕ). ws ++ l) (replicate-append-replicate z (n - (length ws + z)) 0)
    ∙ ap (λ (m : ℕ). ws ++ replicate m 0) e

-- what `splice` does in three pastes: the tail moves, `ins` goes in, and the rest is cleared
module _ (d ins L₁ L₂ L₃ : List ℕ) (used at cut : ℕ)
    (h₁ : at + cut ≤ used)
    (h₂ : used ≤ length d)
    (h₃ : (used - cut) + length ins ≤ length d)
    (z : d ≡ laid (length d) (take used d))
    (e₁ : L₁ ≡ paste d (at + length ins) (drop (at + cut) d) (used - (at + cut)))
    (e₂ : L₂ ≡ paste L₁ at ins (length ins))
    (e₃ : L₃ ≡ paste L₂ (at + length ins + (used - (at + cut)))
    (replicate (used - (at + length ins + (used - (at + cut)))) 0) (used - (at + length ins + (used - (at + cut)))))
  where
    splice_front : take at L₁ ≡ take at d
    splice_front =
        let a : at ≤ at + length ins = omega arith in
        sym (take-take at (at + length ins) L₁ a)
        ∙ ap (λ (l : List ℕ). take at (take (at + length ins) l)) e₁
        ∙ ap (λ (l : List ℕ). take at l)
        (take_paste_at d (at + length ins) (drop (at + cut) d) (used - (at + cut)) (omega arith))
        ∙ take-take at (at + length ins) d a

    splice_put : L₂ ≡ take at d ++ (ins ++ take (used - (at + cut)) (drop (at + cut) d))
        ++ drop (at + length ins + (used - (at + cut))) d
    splice_put =
        let tail : List ℕ = take (used - (at + cut)) (drop (at + cut) d) in
        let rest : List ℕ = drop (at + length ins + (used - (at + cut))) d in
        e₂
        ∙ ap (λ (l : List ℕ). l ++ take (length ins) ins ++ drop (at + length ins) L₁) splice_front
        ∙ ap (λ (l : List ℕ). take at d ++ l ++ drop (at + length ins) L₁) (take-length ins)
        ∙ ap (λ (l : List ℕ). take at d ++ ins ++ l)
        (ap (λ (l : List ℕ). drop (at + length ins) l) e₁
        ∙ drop_paste_at d (at + length ins) (drop (at + cut) d) (used - (at + cut)) (omega arith))
        ∙ sym (append_assoc (take at d ++ ins) tail rest)
        ∙ ap (λ (l : List ℕ). l ++ rest) (append_assoc (take at d) ins tail)

    splice_long : length (take at d ++ (ins ++ take (used - (at + cut)) (drop (at + cut) d)))
        ≡ at + length ins + (used - (at + cut))
    splice_long = simp (length-append, length-take, length-drop) (omega arith)

    splice_zero : at + length ins + (used - (at + cut)) ≤ length d
        → drop (at + length ins + (used - (at + cut)) + (used - (at + length ins + (used - (at + cut))))) L₂
        ≡ replicate
        (length d - (at + length ins + (used - (at + cut)) + (used - (at + length ins + (used - (at + cut)))))) 0
    splice_zero h =
        let n : ℕ = at + length ins + (used - (at + cut)) in
        let W : List ℕ = take at d ++ (ins ++ take (used - (at + cut)) (drop (at + cut) d)) in
        sym (drop-drop (used - n) n L₂)
        ∙ ap (λ (l : List ℕ). drop (used - n) l)
        (ap (λ (l : List ℕ). drop n l) splice_put ∙ drop_at W (drop n d) n splice_long)
        ∙ drop-drop (used - n) n d
        ∙ ap (λ (l : List ℕ). drop (n + (used - n)) l) z
        ∙ drop_laid (length d) (n + (used - n)) (take used d) (simp length-take (omega arith)) (omega arith)

    pub splice_law : L₃ ≡ laid (length d) (spliced at cut ins (take used d))
    splice_law =
        let n : ℕ = at + length ins + (used - (at + cut)) in
        let W : List ℕ = take at d ++ (ins ++ take (used - (at + cut)) (drop (at + cut) d)) in
        let hn : n ≤ length d = omega arith in
        e₃
        ∙ ap (λ (l : List ℕ). l ++ take (used - n) (replicate (used - n) 0) ++ drop (n + (used - n)) L₂)
        (ap (λ (l : List ℕ). take n l) splice_put ∙ take_at W (drop n d) n splice_long)
        ∙ ap (λ (l : List ℕ). W ++ l ++ drop (n + (used - n)) L₂)
        (take_all (used - n) (replicate (used - n) 0) (simp length-replicate (omega arith)))
        ∙ ap (λ (l : List ℕ). W ++ replicate (used - n) 0 ++ l) (splice_zero hn)
        ∙ ap (λ (m : ℕ). W ++ replicate (used - n) 0 ++ replicate (length d - (m + (used - n))) 0) (sym splice_long)
        ∙ laid_twice (length d) (used - n) W (rw splice_long (omega arith))
        ∙ ap (λ (l : List ℕ). laid (length d) (l ++ (ins ++ take (used - (at + cut)) (drop (at + cut) d))))
        (sym (take-take at used d (omega arith)))
        ∙ ap (λ (l : List ℕ). laid (length d) (take at (take used d) ++ (ins ++ l))) (sym (drop-take (at + cut) used d))

-- a slice cleared whole
pub cleared : (n : ℕ) (ws : List ℕ) → length ws ≡ n → paste ws 0 (replicate (n - 0) 0) (n - 0) ≡ replicate n 0
cleared n ws e =
    rw sub-zero
    (paste_all ws 0 (replicate n 0) n (sym (length-replicate n 0))
    ∙ ap (λ (l : List ℕ). replicate n 0 ++ l) (drop_of_length-le ws {i = 0 + n} (omega arith))
    ∙ append-nil (replicate n 0))
