-- The turns of the loops over bytes.
use Rattle.words.proofs.Prelude.{arith, ◌≡◌, refl, sym, ap, ap₂, ◌∙◌, ℕ, zero, suc, ◌+◌, ◌-◌, ◌*◌, ◌/◌, ◌≤◌, ◌<◌, Bool}
use Rattle.words.proofs.Prelude.{true, ◌&&◌, eqb, leb, lt-ltb, le-leb, List, [], ◌∷◌, ◌++◌, length-drop}
use Rattle.words.proofs.Prelude.{length-take, length-set, length, take, drop, get_or, length-take-le, drop-cons}
use Prim.Native.Nat.{◌%◌, ◌^◌}
use mir.Syntax.{w8}
use mir.Val.{Fits}
use lib.ListN.{set}
use lib.Seq.{take-set-le, drop-set-lt, drop-drop, get_or-set_same, append_snoc, take-add}
use Rattle.std.specs.Prelude.{sum}
use Rattle.std.proofs.Common.{lit<}
use Rattle.std.proofs.Math.Nat.{pow-le-pow_right}
use Rattle.std.proofs.lemmas.List.Sums.{sum_by-cons}
use Rattle.words.specs.All.{all_of}
use Rattle.words.specs.Words.{spliced}
use Rattle.words.proofs.Alls.{all_cons, all_take, all_drop}
use Rattle.records.specs.Big.{big, onto, value, are_bytes}
use Rattle.records.specs.Sealed.{total, sum_of, sum_holds}
use Rattle.records.proofs.BigLaws.{byte, onto_append, value_more, value_lt}
use Rattle.records.proofs.Splices.{splice_none}

-- ---- put: what is left to do gives what is asked

pub put_turn : (s : List ℕ) (at j m : ℕ) → 0 < j → at + j ≤ length s
    → spliced at (j - 1) (big (j - 1) (m / 256)) (set s (at + (j - 1)) (m % 256)) ≡ spliced at j (big j m) s
unfolding big
put_turn s at zero m h l = absurd (omega arith)
put_turn s at (suc j) m h l =
    let q : suc j - 1 ≡ j = omega arith in
    let p : at + suc j ≡ suc (at + j) = omega arith in
    let v : ℕ = m % 256 in
    let t : List ℕ = set s (at + j) v in
    let d : drop (at + j) t ≡ v ∷ drop (suc (at + j)) s =
    drop-cons t (at + j) 0 (omega (arith, length-set s (at + j) v))
    ∙ ap₂ (λ (x : ℕ) (y : List ℕ). x ∷ y) (get_or-set_same s (at + j) v 0 (omega arith))
    (drop-set-lt (suc (at + j)) s (at + j) v (omega arith)) in
    ap (λ (i : ℕ). spliced at i (big i (m / 256)) (set s (at + i) v)) q
    ∙ ap₂ (λ (x y : List ℕ). x ++ (big j (m / 256) ++ y)) (take-set-le at s (at + j) v (omega arith)) d
    ∙ ap (λ (x : List ℕ). take at s ++ x) (sym (append_snoc (big j (m / 256)) v (drop (suc (at + j)) s)))
    ∙ ap (λ (i : ℕ). take at s ++ (big j (m / 256) ++ (v ∷ []) ++ drop i s)) (sym p)

pub put_done : (s : List ℕ) (at j m : ℕ) → j ≤ 0 → spliced at j (big j m) s ≡ s
unfolding big
put_done s at j m h =
    let z : j ≡ 0 = omega arith in
    ap (λ (i : ℕ). spliced at i (big i m) s) z ∙ splice_none s at

-- ---- get and sum: of the k bytes at `at`

-- what a slice of bytes holds, by its type
pub bytes_of : (l : List ℕ) → ((i : ℕ) → Fits w8 (get_or l i 0)) → are_bytes l ≡ true
unfolding all_of
bytes_of [] h = refl
bytes_of (b ∷ l) h = all_cons byte b l (lt-ltb b 256 (h 0).fits) (bytes_of l (λ i. h (suc i)))

module _ (s : List ℕ) (at k : ℕ) (known : (i : ℕ) → Fits w8 (get_or s i 0)) where
  -- as `&s[at..at + k]` reads
  abbrev part : List ℕ
  part = take (at + k - at) (drop at s)

  part_length : length part ≤ k
  part_length = simp length-take (omega arith)

  part_bytes : are_bytes part ≡ true
  part_bytes = all_take byte (at + k - at) (drop at s) (all_drop byte at s (bytes_of s known))

  pub get_room : (i : ℕ) → k ≤ 8 → i < length part → value (take i part) * 256 + get_or part i 0 < 2 ^ 64
  get_room i w h =
      let top : 256 ^ (i + 1) ≤ 256 ^ 8 = pow-le-pow_right (lit< tt) {i = i + 1} {j = 8} (omega (arith, part_length)) in
      omega (
        arith,
        part_length,
        value_more part i h,
        value_lt (i + 1) (take (i + 1) part) (length-take-le (i + 1) part (omega arith))
            (all_take byte (i + 1) part part_bytes),
        top,
      )

-- eight bytes are two numbers of four
onto_four : (n : ℕ) (b : List ℕ) → length b ≡ 4 → onto n b ≡ n * 4294967296 + value b
unfolding onto
onto_four n [] h = absurd (omega arith)
onto_four n (p ∷ []) h = absurd (omega arith)
onto_four n (p ∷ q ∷ []) h = absurd (omega arith)
onto_four n (p ∷ q ∷ r ∷ []) h = absurd (omega arith)
onto_four n (p ∷ q ∷ r ∷ t ∷ []) h = omega arith
onto_four n (p ∷ q ∷ r ∷ t ∷ u ∷ l) h = absurd (omega arith)

module _ (s : List ℕ) (known : (i : ℕ) → Fits w8 (get_or s i 0)) where
  four_length : (at : ℕ) → at + 4 ≤ length s → length (take 4 (drop at s)) ≡ 4
  four_length at h = length-take-le 4 (drop at s) (omega (arith, length-drop at s, h))

  pub four_small : (at : ℕ) → at + 4 ≤ length s → value (take 4 (drop at s)) < 4294967296
  four_small at h =
      value_lt 4 (take 4 (drop at s)) (four_length at h)
      (all_take byte 4 (drop at s) (all_drop byte at s (bytes_of s known)))

  pub halves : (at : ℕ) → at + 8 ≤ length s
      → value (take 4 (drop at s)) * 4294967296 + value (take 4 (drop (at + 4) s)) ≡ value (take 8 (drop at s))
  halves at h =
      let a : List ℕ = take 4 (drop at s) in
      let b : List ℕ = take 4 (drop (at + 4) s) in
      sym (ap value (take-add 4 4 (drop at s) ∙ ap (λ (l : List ℕ). a ++ take 4 l) (drop-drop 4 at s))
      ∙ onto_append 0 a b ∙ onto_four (value a) b (four_length (at + 4) (omega arith)))

pub total_sum : (l : List ℕ) → sum l ≡ total l
unfolding total
total_sum [] = refl
total_sum (b ∷ l) = sum_by-cons (λ (x : ℕ). x) b l ∙ ap (λ (n : ℕ). b + n) (total_sum l)

pub sealed_here : (l : List ℕ) (at k g t : ℕ) → g ≡ value (take 2 (drop (at + k) l)) → t ≡ sum_of (take k (drop at l))
    → at + (k + 2) ≤ length l → eqb g t ≡ (leb (k + 2) (length (drop at l)) && sum_holds k (drop at l))
unfolding sum_holds
sealed_here l at k g t p q h =
    ap₂ (λ (x y : ℕ). eqb x y) (p ∙ ap (λ (m : List ℕ). value (take 2 m)) (sym (drop-drop k at l))) q
    ∙ sym (ap (λ (b : Bool). b && sum_holds k (drop at l))
    (le-leb (k + 2) (length (drop at l)) (omega (arith, length-drop at l))))
