-- Sealed records, both ways.
use Rattle.words.proofs.Prelude.{arith, ◌≡◌, refl, sym, ap, ap₂, ◌∙◌, ℕ, zero, suc, ◌+◌, ◌*◌, ◌≤◌, ◌<◌, Bool, true}
use Rattle.words.proofs.Prelude.{ltb, leb, eq-eqb, eqb-true, lt-ltb, ltb-true, le-leb, leb-true, List, [], ◌∷◌}
use Rattle.words.proofs.Prelude.{append_assoc, ◌++◌, map, length-drop, length-append, take-append-drop, length, take}
use Rattle.words.proofs.Prelude.{drop, replicate, get_or, length-take-le}
use Prim.Native.Nat.{◌^◌}
use native.Mathlib.Nat.{zero-mul, suc-mul, zero-add, mod-eq_of_lt}
use lib.Seq.{take_at, drop_at, take-add, drop-drop}
use Rattle.words.specs.All.{all_of}
use Rattle.words.proofs.Tests.{and_left, and_right, both_true}
use Rattle.words.proofs.Alls.{all_head, all_tail, all_join, all_take, all_drop}
use Rattle.records.specs.Big.{big, onto, value, are_bytes}
use Rattle.records.specs.Sealed.{total, sum_of, seal, Field, field, widths, numbers, fits, packed, unpacked}
use Rattle.records.specs.Sealed.{sealed, sum_holds, is_sealed}
use Rattle.records.proofs.BigLaws.{byte, big_length, big_bytes, value_big, big_value, value_lt}

abbrev fitting : Field → Bool
fitting f = ltb f.number (256 ^ f.width)

-- ---- fields

pub packed_length : (fs : List Field) → length (packed fs) ≡ total (widths fs)
unfolding packed total
packed_length [] = refl
packed_length (f ∷ fs) = omega
    (arith, length-append (big f.width f.number) (packed fs), big_length f.width f.number, packed_length fs)

pub packed_bytes : (fs : List Field) → are_bytes (packed fs) ≡ true
unfolding packed all_of
packed_bytes [] = refl
packed_bytes (f ∷ fs) = all_join byte (big f.width f.number) (packed fs) (big_bytes f.width f.number)
    (packed_bytes fs)

pub unpacked_packed : (fs : List Field) (rest : List ℕ) → fits fs ≡ true → unpacked (widths fs) (packed fs ++ rest) ≡ fs
unfolding packed unpacked
unpacked_packed [] rest e = refl
unpacked_packed (f ∷ fs) rest e =
    let b : List ℕ = big f.width f.number in
    let n : value b ≡ f.number = value_big f.width f.number
    (ltb-true f.number (256 ^ f.width) (all_head fitting f fs e)) in
    ap (λ (l : List ℕ). field f.width (value (take f.width l)) ∷ unpacked (widths fs) (drop f.width l))
    (append_assoc b (packed fs) rest)
    ∙ ap₂ (λ (x y : List ℕ). field f.width (value x) ∷ unpacked (widths fs) y)
    (take_at b (packed fs ++ rest) f.width (big_length f.width f.number))
    (drop_at b (packed fs ++ rest) f.width (big_length f.width f.number))
    ∙ ap₂ (λ (x : ℕ) (l : List Field). field f.width x ∷ l) n (unpacked_packed fs rest (all_tail fitting f fs e))

pub packed_unpacked : (ws bs : List ℕ) → total ws ≤ length bs → are_bytes bs ≡ true
    → packed (unpacked ws bs) ≡ take (total ws) bs
unfolding packed unpacked total
packed_unpacked [] bs h e = refl
packed_unpacked (w ∷ ws) bs h e =
    ap₂ (λ (x y : List ℕ). x ++ y)
    (big_value w (take w bs) (length-take-le w bs (omega arith)) (all_take byte w bs e))
    (packed_unpacked ws (drop w bs) (omega (arith, length-drop w bs)) (all_drop byte w bs e))
    ∙ sym (take-add w (total ws) bs)

pub unpacked_widths : (ws bs : List ℕ) → widths (unpacked ws bs) ≡ ws
unfolding unpacked
unpacked_widths [] bs = refl
unpacked_widths (w ∷ ws) bs = ap (λ (l : List ℕ). w ∷ l) (unpacked_widths ws (drop w bs))

pub unpacked_fits : (ws bs : List ℕ) → total ws ≤ length bs → are_bytes bs ≡ true → fits (unpacked ws bs) ≡ true
unfolding unpacked total all_of
unpacked_fits [] bs h e = refl
unpacked_fits (w ∷ ws) bs h e =
    both_true (fitting (field w (value (take w bs)))) _
    (lt-ltb (value (take w bs)) (256 ^ w)
    (value_lt w (take w bs) (length-take-le w bs (omega arith)) (all_take byte w bs e)))
    (unpacked_fits ws (drop w bs) (omega (arith, length-drop w bs)) (all_drop byte w bs e))

-- ---- sums

pub seal_length : (bs : List ℕ) → length (seal bs) ≡ length bs + 2
seal_length bs = length-append bs (big 2 (sum_of bs)) ∙ ap (λ (n : ℕ). length bs + n) (big_length 2 (sum_of bs))

pub sealed_length : (fs : List Field) → length (sealed fs) ≡ total (widths fs) + 2
sealed_length fs = seal_length (packed fs) ∙ ap (λ (n : ℕ). n + 2) (packed_length fs)

pub seal_holds : (bs rest : List ℕ) (k : ℕ) → length bs ≡ k → sum_holds k (seal bs ++ rest) ≡ true
unfolding sum_holds
seal_holds bs rest k h =
    let s : List ℕ = big 2 (sum_of bs) in
    let a : take k (seal bs ++ rest) ≡ bs = ap (take k) (append_assoc bs s rest) ∙ take_at bs (s ++ rest) k h in
    let d : drop k (seal bs ++ rest) ≡ s ++ rest = ap (drop k) (append_assoc bs s rest) ∙ drop_at bs (s ++ rest) k h in
    let v : value (take 2 (drop k (seal bs ++ rest))) ≡ sum_of bs =
    ap (λ (l : List ℕ). value (take 2 l)) d ∙ ap value (take_at s rest 2 (big_length 2 (sum_of bs)))
    ∙ value_big 2 (sum_of bs) (omega arith) in
    eq-eqb _ _ (v ∙ ap sum_of (sym a))

pub holds_seal : (k : ℕ) (bs : List ℕ) → k + 2 ≤ length bs → are_bytes bs ≡ true → sum_holds k bs ≡ true
    → bs ≡ seal (take k bs) ++ drop (k + 2) bs
unfolding sum_holds
holds_seal k bs h e q =
    let t : List ℕ = take 2 (drop k bs) in
    let n : length t ≡ 2 = length-take-le 2 (drop k bs) (omega (arith, length-drop k bs)) in
    let s : big 2 (sum_of (take k bs)) ≡ t =
    ap (big 2) (sym (eqb-true (value t) (sum_of (take k bs)) q))
    ∙ big_value 2 t n (all_take byte 2 (drop k bs) (all_drop byte k bs e)) in
    sym (take-append-drop (k + 2) bs)
    ∙ ap (λ (l : List ℕ). l ++ drop (k + 2) bs) (take-add k 2 bs ∙ ap (λ (l : List ℕ). take k bs ++ l) (sym s))

-- ---- records: what was written is there again, and what is there was written

pub sealed_is : (fs : List Field) (rest : List ℕ) → is_sealed (widths fs) (sealed fs ++ rest) ≡ true
unfolding is_sealed
sealed_is fs rest =
    both_true (leb (total (widths fs) + 2) (length (sealed fs ++ rest))) _
    (le-leb (total (widths fs) + 2) (length (sealed fs ++ rest))
    (omega (arith, length-append (sealed fs) rest, sealed_length fs)))
    (seal_holds (packed fs) rest (total (widths fs)) (packed_length fs))

pub sealed_says : (fs : List Field) (rest : List ℕ) → fits fs ≡ true → unpacked (widths fs) (sealed fs ++ rest) ≡ fs
sealed_says fs rest e =
    ap (unpacked (widths fs)) (append_assoc (packed fs) (big 2 (sum_of (packed fs))) rest)
    ∙ unpacked_packed fs (big 2 (sum_of (packed fs)) ++ rest) e

pub is_sealed_lem : (ws bs : List ℕ) → are_bytes bs ≡ true → is_sealed ws bs ≡ true
    → bs ≡ sealed (unpacked ws bs) ++ drop (total ws + 2) bs
unfolding is_sealed
is_sealed_lem ws bs e q =
    let h : total ws + 2 ≤ length bs = leb-true (total ws + 2) (length bs) (and_left _ _ q) in
    holds_seal (total ws) bs h e (and_right (leb (total ws + 2) (length bs)) _ q)
    ∙ ap (λ (l : List ℕ). seal l ++ drop (total ws + 2) bs) (sym (packed_unpacked ws bs (omega arith) e))

pub is_fit : (ws bs : List ℕ) → are_bytes bs ≡ true → is_sealed ws bs ≡ true → fits (unpacked ws bs) ≡ true
unfolding is_sealed
is_fit ws bs e q = unpacked_fits ws bs (omega (arith, leb-true (total ws + 2) (length bs) (and_left _ _ q))) e

-- ---- parts of records, and runs of fields of one width

pub packed_append : (a b : List Field) → packed (a ++ b) ≡ packed a ++ packed b
unfolding packed
packed_append [] b = refl
packed_append (f ∷ a) b =
    ap (λ (l : List ℕ). big f.width f.number ++ l) (packed_append a b)
    ∙ sym (append_assoc (big f.width f.number) (packed a) (packed b))

pub unpacked_append : (v w bs : List ℕ) → unpacked (v ++ w) bs ≡ unpacked v bs ++ unpacked w (drop (total v) bs)
unfolding unpacked total
unpacked_append [] w bs = refl
unpacked_append (x ∷ v) w bs =
    ap (λ (l : List Field). field x (value (take x bs)) ∷ l)
    (unpacked_append v w (drop x bs)
    ∙ ap (λ (l : List ℕ). unpacked v (drop x bs) ++ unpacked w l) (drop-drop (total v) x bs))

-- one field of a record, at its offset
pub field_at : (a b : List Field) (w n k : ℕ) (rest : List ℕ) → n < 256 ^ w → total (widths a) ≡ k
    → value (take w (drop k (sealed (a ++ field w n ∷ b) ++ rest))) ≡ n
unfolding packed
field_at a b w n k rest h e =
    let fs : List Field = a ++ field w n ∷ b in
    let s : List ℕ = big 2 (sum_of (packed fs)) in
    let tail : List ℕ = packed b ++ (s ++ rest) in
    let whole : sealed fs ++ rest ≡ packed a ++ (big w n ++ tail) =
    append_assoc (packed fs) s rest
    ∙ ap (λ (l : List ℕ). l ++ (s ++ rest)) (packed_append a (field w n ∷ b))
    ∙ append_assoc (packed a) (big w n ++ packed b) (s ++ rest)
    ∙ ap (λ (l : List ℕ). packed a ++ l) (append_assoc (big w n) (packed b) (s ++ rest)) in
    ap (λ (l : List ℕ). value (take w (drop k l))) whole
    ∙ ap (λ (l : List ℕ). value (take w l)) (drop_at (packed a) (big w n ++ tail) k (packed_length a ∙ e))
    ∙ ap value (take_at (big w n) tail w (big_length w n))
    ∙ value_big w n h

pub widths_append : (a b : List Field) → widths (a ++ b) ≡ widths a ++ widths b
widths_append [] b = refl
widths_append (f ∷ a) b = ap (λ (l : List ℕ). f.width ∷ l) (widths_append a b)

pub total-append : (a b : List ℕ) → total (a ++ b) ≡ total a + total b
unfolding total
total-append [] b = omega arith
total-append (x ∷ a) b = omega (arith, total-append a b)

module _ (w : ℕ) where
  pub widths_map : (l : List ℕ) → widths (map (field w) l) ≡ replicate (length l) w
  widths_map [] = refl
  widths_map (x ∷ l) = ap (λ (r : List ℕ). w ∷ r) (widths_map l)

  pub numbers_map : (l : List ℕ) → numbers (map (field w) l) ≡ l
  numbers_map [] = refl
  numbers_map (x ∷ l) = ap (λ (r : List ℕ). x ∷ r) (numbers_map l)

  pub fits_map : (l : List ℕ) → all_of (λ (n : ℕ). ltb n (256 ^ w)) l ≡ true → fits (map (field w) l) ≡ true
  unfolding all_of
  fits_map [] e = refl
  fits_map (x ∷ l) e =
      both_true (ltb x (256 ^ w)) _ (all_head (λ (n : ℕ). ltb n (256 ^ w)) x l e)
      (fits_map l (all_tail (λ (n : ℕ). ltb n (256 ^ w)) x l e))

  pub map_numbers : (n : ℕ) (bs : List ℕ)
      → map (field w) (numbers (unpacked (replicate n w) bs)) ≡ unpacked (replicate n w) bs
  unfolding unpacked
  map_numbers zero bs = refl
  map_numbers (suc n) bs = ap (λ (r : List Field). field w (value (take w bs)) ∷ r) (map_numbers n (drop w bs))

  pub total_run : (n : ℕ) → total (replicate n w) ≡ n * w
  unfolding total
  total_run zero = sym (zero-mul w)
  total_run (suc n) = omega (arith, total_run n, suc-mul n w)

  pub run_length : (n : ℕ) (bs : List ℕ) → length (unpacked (replicate n w) bs) ≡ n
  unfolding unpacked
  run_length zero bs = refl
  run_length (suc n) bs = ap suc (run_length n (drop w bs))

  pub numbers_fit : (n : ℕ) (bs : List ℕ) → fits (unpacked (replicate n w) bs) ≡ true
      → all_of (λ (x : ℕ). ltb x (256 ^ w)) (numbers (unpacked (replicate n w) bs)) ≡ true
  unfolding unpacked all_of
  numbers_fit zero bs e = refl
  numbers_fit (suc n) bs e =
      both_true (ltb (value (take w bs)) (256 ^ w)) _ (and_left _ _ e)
      (numbers_fit n (drop w bs) (and_right (ltb (value (take w bs)) (256 ^ w)) _ e))

-- one field, from the bytes at its offset: with widths and index written out this computes, as in
-- `value (take 4 (drop 5 bs))`
pub number_at : (ws bs : List ℕ) (i : ℕ) → i < length ws
    → (get_or (unpacked ws bs) i (field 0 0)).number ≡ value (take (get_or ws i 0) (drop (total (take i ws)) bs))
unfolding unpacked total
number_at [] bs i h = absurd (omega arith)
number_at (w ∷ ws) bs zero h = refl
number_at (w ∷ ws) bs (suc i) h =
    number_at ws (drop w bs) i (omega arith)
    ∙ ap (λ (l : List ℕ). value (take (get_or ws i 0) l)) (drop-drop (total (take i ws)) w bs)

-- bytes as fields of one byte
one_byte : (b : ℕ) → b < 256 → big 1 b ≡ b ∷ []
unfolding big
one_byte b h = ap (λ (x : ℕ). x ∷ []) (mod-eq_of_lt h)

pub packed_singles : (bs : List ℕ) → are_bytes bs ≡ true → packed (map (field 1) bs) ≡ bs
unfolding packed
packed_singles [] e = refl
packed_singles (b ∷ bs) e =
    ap₂ (λ (x y : List ℕ). x ++ y) (one_byte b (ltb-true b 256 (all_head byte b bs e)))
    (packed_singles bs (all_tail byte b bs e))

pub singles : (n : ℕ) (bs : List ℕ) → n ≤ length bs → numbers (unpacked (replicate n 1) bs) ≡ take n bs
unfolding unpacked onto
singles zero bs h = refl
singles (suc n) [] h = absurd (omega arith)
singles (suc n) (b ∷ bs) h = ap₂ (λ (x : ℕ) (l : List ℕ). x ∷ l) (zero-add b) (singles n bs (omega arith))
