-- The turns of the loops over fields.
use Rattle.words.proofs.Prelude.{arith, ◌≡◌, sym, ap, ap₂, ◌∙◌, ℕ, zero, suc, ◌+◌, ◌≤◌, ◌<◌, true, leb, leb-true, List}
use Rattle.words.proofs.Prelude.{[], ◌∷◌, append-nil, ◌++◌, drop_of_length-le, length, take, drop, get_or}
use Rattle.words.proofs.Prelude.{take_all}
use lib.ListN.{set}
use lib.Seq.{append_snoc, drop-drop}
use Rattle.std.proofs.lemmas.List.{drop_more, take_more_set}
use Rattle.words.specs.Words.{spliced}
use Rattle.words.proofs.Alls.{all_head, all_tail}
use Rattle.records.specs.Big.{big, value}
use Rattle.records.specs.Sealed.{total, numbers, zipped, narrow, packed, unpacked}
use Rattle.records.proofs.BigLaws.{big_length}
use Rattle.records.proofs.Splices.{splice_none, splice_next}

pub narrow_at : (ws : List ℕ) (i : ℕ) → narrow ws ≡ true → i < length ws → get_or ws i 0 ≤ 8
narrow_at [] i e h = absurd (omega arith)
narrow_at (w ∷ ws) zero e h = leb-true w 8 (all_head (λ (x : ℕ). leb x 8) w ws e)
narrow_at (w ∷ ws) (suc i) e h = narrow_at ws i (all_tail (λ (x : ℕ). leb x 8) w ws e) (omega arith)

-- put: what is left to do, of the widths and numbers still to come, gives what is asked
abbrev pub left : List ℕ → List ℕ → ℕ → List ℕ → List ℕ
left ws ns here s = spliced here (total ws) (packed (zipped ws ns)) s

pub put_turn : (w n here : ℕ) (ws ns s next : List ℕ) → here + total (w ∷ ws) ≤ length s
    → next ≡ spliced here w (big w n) s → left ws ns (here + w) next ≡ left (w ∷ ws) (n ∷ ns) here s
unfolding packed total
put_turn w n here ws ns s next room e =
    ap (left ws ns (here + w)) e
    ∙ splice_next s here w (big w n) (big_length w n) (omega arith) (total ws) (packed (zipped ws ns))

pub put_done : (here : ℕ) (ws ns s : List ℕ) → length ws ≡ 0 → left ws ns here s ≡ s
unfolding packed total
put_done here [] ns s h = splice_none s here
put_done here (w ∷ ws) ns s h = absurd (omega arith)

module _ (ws : List ℕ) (i : ℕ) where
  pub total_turn : i < length ws → total (drop i ws) ≡ get_or ws i 0 + total (drop (i + 1) ws)
  unfolding total
  total_turn h = ap total (drop_more ws i 0 h)

  -- got: the numbers so far, and those still to come
  module _ (s ns : List ℕ) (here : ℕ) where
    abbrev pub got : List ℕ
    got = take i ns ++ numbers (unpacked (drop i ws) (drop here s))

    pub got_turn : (v : ℕ) → length ns ≡ length ws → i < length ws → v ≡ value (take (get_or ws i 0) (drop here s))
        → take (i + 1) (set ns i v) ++ numbers (unpacked (drop (i + 1) ws) (drop (here + get_or ws i 0) s)) ≡ got
    unfolding unpacked
    got_turn v long h e =
        let w : ℕ = get_or ws i 0 in
        let rest : List ℕ = numbers (unpacked (drop (i + 1) ws) (drop (here + w) s)) in
        ap (λ (l : List ℕ). l ++ rest) (take_more_set ns i v (omega arith))
        ∙ append_snoc (take i ns) v rest
        ∙ ap₂ (λ (x : ℕ) (y : List ℕ). take i ns ++ (x ∷ numbers (unpacked (drop (i + 1) ws) y))) e
        (sym (drop-drop w here s))
        ∙ sym (ap (λ (l : List ℕ). take i ns ++ numbers (unpacked l (drop here s))) (drop_more ws i 0 h))

    pub got_done : length ns ≡ length ws → length ws ≤ i → ns ≡ got
    unfolding unpacked
    got_done long h =
        sym (ap₂ (λ (x : List ℕ) (y : List ℕ). x ++ numbers (unpacked y (drop here s)))
        (take_all i ns (omega arith)) (drop_of_length-le ws {i = i} h)
        ∙ append-nil ns)
