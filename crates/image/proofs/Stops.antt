-- The length of a stop-sign's record, test by test.
use Rattle.words.proofs.Prelude.{arith, ◌≡◌, refl, sym, ap, ap₂, ◌∙◌, ℕ, ◌+◌, ◌*◌, ◌≤◌, ◌<◌, Bool, true, false, ◌&&◌}
use Rattle.words.proofs.Prelude.{◌||◌, eqb, leb, le-leb, lt-leb, List, ◌∷◌, length-drop, length, take}
use Rattle.words.proofs.Prelude.{drop, replicate}
use mathlib.Core.Bool.{and-false}
use Rattle.std.specs.Prelude.{Some, None}
use Rattle.std.specs.Bool.{then_some}
use lib.Seq.{drop-drop}
use Rattle.records.specs.Big.{value}
use Rattle.records.specs.Sealed.{total, sum_holds, is_sealed}
use Rattle.records.proofs.SealedLaws.{total-append, total_run}
use Rattle.entry.specs.Limits.{most_nodes, most_metadata}
use Rattle.image.specs.Layout.{stop_mark, stop_widths, stop_size, rec_bytes}
use Rattle.image.specs.Reading.{nodes_at, metadata_at, rec_at, sound_at}
use Rattle.image.specs.Inner.{size_at}
use Rattle.image.specs.declared.Want.TheVariants.{Stop}
use Rattle.image.proofs.RecLaws.{stop_tests, stop_tests_lem, rec_long}

pub stop_total : (n l : ℕ) → total (stop_widths n l) + 2 ≡ stop_size n l
unfolding total
stop_total n l = omega (arith, total-append (replicate n 8) (1 ∷ replicate l 1), total_run 8 n, total_run 1 l)

-- one test that fails
no_1 : (a b c d e f : Bool) → a ≡ false → (a && (b && (c && (d && (e && f))))) ≡ false
no_1 a b c d e f q = rw q

no_4 : (a b c d e f : Bool) → d ≡ false → (a && (b && (c && (d && (e && f))))) ≡ false
no_4 a b c d e f q = simp (q, and-false)

no_5 : (a b c d e f : Bool) → e ≡ false → (a && (b && (c && (d && (e && f))))) ≡ false
no_5 a b c d e f q = simp (q, and-false)

-- and three that hold
yes_145 : (a b c d e f : Bool) → a ≡ true → d ≡ true → e ≡ true
    → (a && (b && (c && (d && (e && f))))) ≡ (b && (c && f))
yes_145 a b c d e f p q r = rw (p, q, r)

module _ (s : List ℕ) (at : ℕ) (m : Bool) where
  abbrev bs : List ℕ
  bs = drop at s

  abbrev n : ℕ
  n = nodes_at bs

  abbrev l : ℕ
  l = metadata_at bs

  abbrev shut : Bool
  shut = is_sealed (stop_widths n l) bs

  abbrev marked : Bool
  marked = eqb (value (take 2 bs)) stop_mark

  pub nodes_here : n ≡ value (take 1 (drop (at + 6) s))
  nodes_here = ap (λ (x : List ℕ). value (take 1 x)) (drop-drop 6 at s)

  pub metadata_here : (k : ℕ) → k ≡ n → l ≡ value (take 1 (drop (at + (7 + k * 8)) s))
  metadata_here k e =
      ap (λ (x : List ℕ). value (take 1 x))
      (drop-drop (7 + n * 8) at s ∙ ap (λ (j : ℕ). drop (at + (7 + j * 8)) s) (sym e))

  -- its size by its tests
  sized : size_at 0 (Stop m) bs ≡ then_some (stop_tests m bs) (stop_size n l)
  unfolding size_at
  sized = go (sound_at 0 (Stop m) bs) refl
    where
      go : (t : Bool) → sound_at 0 (Stop m) bs ≡ t
          → then_some t (length (rec_bytes (rec_at (Stop m) bs))) ≡ then_some (stop_tests m bs) (stop_size n l)
      go true e =
          ap (λ (j : ℕ). Some j) (rec_long 0 (Stop m) bs e ∙ stop_total n l)
          ∙ sym (ap (λ (t : Bool). then_some t (stop_size n l)) (sym (stop_tests_lem 0 m bs) ∙ e))
      go false e = sym (ap (λ (t : Bool). then_some t (stop_size n l)) (sym (stop_tests_lem 0 m bs) ∙ e))

  none : stop_tests m bs ≡ false → None ≡ size_at 0 (Stop m) bs
  none e = sym (sized ∙ ap (λ (t : Bool). then_some t (stop_size n l)) e)

  open_short : length bs < stop_size n l → shut ≡ false
  unfolding is_sealed
  open_short h =
      ap (λ (t : Bool). t && sum_holds (total (stop_widths n l)) bs)
      (lt-leb (total (stop_widths n l) + 2) (length bs) (omega (arith, stop_total n l)))

  -- cut short: before the node count, or before the metadata's length
  pub stop_short : length s < at + stop_size 0 0 → None ≡ size_at 0 (Stop m) bs
  stop_short h =
      none (no_1 shut marked (leb 1 n) (leb n most_nodes) (leb l most_metadata) (m || eqb l 0)
      (open_short (omega (arith, h, length-drop at s))))

  pub stop_cut : length s < at + stop_size n 0 → None ≡ size_at 0 (Stop m) bs
  stop_cut h =
      none (no_1 shut marked (leb 1 n) (leb n most_nodes) (leb l most_metadata) (m || eqb l 0)
      (open_short (omega (arith, h, length-drop at s))))

  pub stop_nodes : most_nodes < n → None ≡ size_at 0 (Stop m) bs
  stop_nodes h =
      none (no_4 shut marked (leb 1 n) (leb n most_nodes) (leb l most_metadata) (m || eqb l 0) (lt-leb n most_nodes h))

  pub stop_metadata : most_metadata < l → None ≡ size_at 0 (Stop m) bs
  stop_metadata h =
      none (no_5 shut marked (leb 1 n) (leb n most_nodes) (leb l most_metadata) (m || eqb l 0) (lt-leb l most_metadata h))

  module _ (k : ℕ) (e : k + 2 ≡ stop_size n l) where
    sealed_is : (leb (k + 2) (length bs) && sum_holds k bs) ≡ shut
    unfolding is_sealed
    sealed_is =
        let q : k ≡ total (stop_widths n l) = omega (arith, e, stop_total n l) in
        ap (λ (j : ℕ). leb (j + 2) (length bs) && sum_holds j bs) q

    pub stop_open : (leb (k + 2) (length bs) && sum_holds k bs) ≡ false → None ≡ size_at 0 (Stop m) bs
    stop_open q =
        none (no_1 shut marked (leb 1 n) (leb n most_nodes) (leb l most_metadata) (m || eqb l 0) (sym sealed_is ∙ q))

    pub stop_whole : (g x y : ℕ) → (leb (k + 2) (length bs) && sum_holds k bs) ≡ true → n ≤ most_nodes
        → l ≤ most_metadata → g ≡ value (take 2 bs) → x ≡ n → y ≡ l
        → then_some (eqb g stop_mark && (leb 1 x && (m || eqb y 0))) (stop_size x y) ≡ size_at 0 (Stop m) bs
    stop_whole g x y q few little p u v =
        ap (λ (i : ℕ). then_some (eqb i stop_mark && (leb 1 x && (m || eqb y 0))) (stop_size x y)) p
        ∙ ap₂ (λ (i j : ℕ). then_some (marked && (leb 1 i && (m || eqb j 0))) (stop_size i j)) u v
        ∙ ap (λ (t : Bool). then_some t (stop_size n l))
        (sym (yes_145 shut marked (leb 1 n) (leb n most_nodes) (leb l most_metadata) (m || eqb l 0)
        (sym sealed_is ∙ q) (le-leb n most_nodes few) (le-leb l most_metadata little)))
        ∙ sym sized
