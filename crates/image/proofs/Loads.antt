-- Words loaded from records, one record after the other.
use Rattle.words.proofs.Prelude.{arith, ◌≡◌, refl, sym, ap, ap₂, ◌∙◌, ℕ, zero, suc, ◌+◌, ◌-◌, ◌*◌, ◌≤◌, ◌<◌, List, []}
use Rattle.words.proofs.Prelude.{append-nil, ◌++◌, drop_of_length-le, length, take, drop, replicate, take_all}
use lib.Seq.{drop-drop, paste, take_at}
use lib.ListN.{length-replicate}
use Rattle.words.specs.Words.{laid, spliced}
use Rattle.words.specs.Coded.{words_of}
use Rattle.words.proofs.CodedLaws.{words_length}
use Rattle.records.specs.Sealed.{numbers, unpacked}
use Rattle.records.proofs.Splices.{splice_none, splice_next, splice_part, splice-length}
use Rattle.entry.specs.Limits.{width}
use Rattle.entry.specs.Change.{change_code, stored}
use Rattle.entry.proofs.ChangeLaws.{change_ok}
use Rattle.image.specs.Layout.{change_size}
use Rattle.image.specs.Inner.{changes_at}
use Rattle.image.proofs.RecLaws.{words_there, words_again}

pub changes_count : (n : ℕ) (bs : List ℕ) → length (changes_at n bs) ≡ n
unfolding changes_at
changes_count zero bs = refl
changes_count (suc n) bs = ap suc (changes_count n (drop change_size bs))

abbrev pub to_load : ℕ → List ℕ → List ℕ
to_load n bs = words_of change_code (changes_at n bs)

load_long : (n : ℕ) (bs : List ℕ) → length (to_load n bs) ≡ n * width
load_long n bs = words_length change_code change_ok (changes_at n bs) ∙ ap (λ (k : ℕ). k * width) (changes_count n bs)

module _ (s : List ℕ) (n i at : ℕ) (words : List ℕ) where
  abbrev here : ℕ
  here = at + i * change_size

  abbrev pub left : List ℕ
  left = spliced (i * width) ((n - i) * width) (to_load (n - i) (drop here s)) words

  abbrev got : List ℕ
  got = numbers (unpacked (replicate width 8) (drop (here + 2) s))

  got_is : got ≡ words_there (drop here s)
  got_is = ap (λ (l : List ℕ). numbers (unpacked (replicate width 8) l)) (sym (drop-drop 2 here s))

  -- k is the part's length, as the prover has it
  pub load_length : (ys : List ℕ) (k : ℕ) → i < n → n * width ≤ length words → k ≡ width → ys ≡ got
      → length (take (i * width) words ++ (ys ++ drop k (drop (i * width) words))) ≡ length words
  unfolding unpacked
  load_length ys k h room e q =
      ap length (splice_part words ys (i * width) k width e)
      ∙ splice-length words (i * width) width ys (ap length q) (omega arith)

  pub load_turn : (ys : List ℕ) (k : ℕ) → i < n → n * width ≤ length words → k ≡ width → ys ≡ got
      → spliced ((i + 1) * width) ((n - (i + 1)) * width) (to_load (n - (i + 1)) (drop (at + (i + 1) * change_size) s))
      (take (i * width) words ++ (ys ++ drop k (drop (i * width) words)))
      ≡ left
  unfolding words_of changes_at unpacked
  load_turn ys k h room e q =
      let m : ℕ = n - (i + 1) in
      let rest : List ℕ = to_load m (drop (here + change_size) s) in
      let a : (i + 1) * width ≡ i * width + width = omega arith in
      let b : width + m * width ≡ (n - i) * width = omega arith in
      let c : suc m ≡ n - i = omega arith in
      let d : at + (i + 1) * change_size ≡ here + change_size = omega arith in
      let w : words_there (drop here s) ++ rest ≡ to_load (suc m) (drop here s) =
      ap₂ (λ (x y : List ℕ). x ++ to_load m y) (sym (words_again (drop here s))) (sym (drop-drop change_size here s)) in
      ap (λ (j : ℕ). spliced ((i + 1) * width) (m * width) (to_load m (drop j s))
      (take (i * width) words ++ (ys ++ drop k (drop (i * width) words)))) d
      ∙ ap₂ (λ (j : ℕ) (l : List ℕ). spliced j (m * width) rest l) a
      (splice_part words ys (i * width) k width e
      ∙ ap (λ (l : List ℕ). spliced (i * width) width l words) (q ∙ got_is))
      ∙ splice_next words (i * width) width (words_there (drop here s)) refl (omega arith) (m * width) rest
      ∙ ap₂ (λ (j : ℕ) (l : List ℕ). spliced (i * width) j l words) b
      (w ∙ ap (λ (j : ℕ). to_load j (drop here s)) c)

  pub load_done : n ≤ i → left ≡ words
  unfolding words_of changes_at
  load_done h =
      let z : n - i ≡ 0 = omega arith in
      ap (λ (j : ℕ). spliced (i * width) (j * width) (to_load j (drop here s)) words) z ∙ splice_none words (i * width)

-- zeros over the rest
pub load_cleared : (n : ℕ) (bs words cur next : List ℕ) → n * width ≤ length words
    → cur ≡ spliced 0 (n * width) (to_load n bs) words → length cur ≡ length words
    → next ≡ paste cur (n * width) (replicate (length cur - n * width) 0) (length cur - n * width)
    → next ≡ stored (length words) (changes_at n bs)
unfolding laid
load_cleared n bs words cur next h e l q =
    let k : ℕ = n * width in
    let m : ℕ = length words - k in
    let tail : List ℕ = replicate m 0 in
    let long : length (to_load n bs) ≡ k = load_long n bs in
    let f : take k cur ≡ to_load n bs =
    ap (take k) e ∙ take_at (to_load n bs) (drop (0 + k) words) k long in
    let d : drop (k + m) cur ≡ [] = drop_of_length-le cur {i = k + m} (omega (arith, l, h)) in
    q
    ∙ ap (λ (j : ℕ). paste cur k (replicate (j - k) 0) (j - k)) l
    ∙ ap₂ (λ (x y : List ℕ). x ++ take m tail ++ y) f d
    ∙ append-nil (to_load n bs ++ take m tail)
    ∙ ap (λ (x : List ℕ). to_load n bs ++ x) (take_all m tail (omega (arith, length-replicate {A = ℕ} m 0)))
    ∙ ap (λ (j : ℕ). to_load n bs ++ replicate (length words - j) 0) (sym long)
