-- What the code for a key's or an entry's record does.
use Rattle.words.proofs.Prelude.{arith, ◌≡◌, refl, sym, ap, ap₂, ◌∙◌, ℕ, ◌+◌, ◌≤◌, Bool, true, false, and-true}
use Rattle.words.proofs.Prelude.{◌&&◌, eqb, leb, leb-true, List, length-drop, length}
use Rattle.words.proofs.Prelude.{take, drop, replicate, get_or}
use lib.Seq.{drop-drop}
use Rattle.std.specs.Prelude.{Option, Some, None}
use Rattle.std.specs.Bool.{then_some}
use Rattle.std.proofs.lemmas.Option.{none-some, same_Some}
use Rattle.words.specs.All.{all_of}
use Rattle.words.specs.Coded.{entries_at}
use Rattle.words.proofs.Tests.{and_left}
use Rattle.records.specs.Big.{value}
use Rattle.records.specs.Sealed.{total, numbers, unpacked, sum_holds, is_sealed}
use Rattle.entry.specs.Limits.{width}
use Rattle.entry.specs.Change.{Change, change_formed, entries_formed, entries_of}
use Rattle.image.specs.Layout.{key_mark, entry_mark, change_widths, change_size, rec_bytes}
use Rattle.image.specs.Reading.{change_from, rec_at, sound_at}
use Rattle.image.specs.Inner.{floor_of, above_after, size_at, step_at, change_sound, key_at}
use Rattle.image.specs.declared.Want.{Want}
use Rattle.image.specs.declared.Want.TheVariants.{Key, Entry, Stop}
use Rattle.image.proofs.Puts.{change_long}

unsaid : {A : Type 0} (t : Bool) (x : A) → None ≡ then_some t x → t ≡ false
unsaid true x e = absurd (none-some x e)
unsaid false x e = refl

said : {A : Type 0} (t : Bool) (x k : A) → Some k ≡ then_some t x → (t ≡ true) × (k ≡ x)
said true x k e = (refl, same_Some k x e)
said false x k e = absurd (none-some k (sym e))

module _ (s : List ℕ) (at : ℕ) where
  abbrev bs : List ℕ
  bs = drop at s

  abbrev pub here : Change
  here = change_from (unpacked change_widths bs)

  pub sealed_here : (leb change_size (length bs) && sum_holds 18 bs) ≡ is_sealed change_widths bs
  unfolding is_sealed total
  sealed_here = refl

  pub sealed_room : at ≤ length s → is_sealed change_widths bs ≡ true → at + change_size ≤ length s
  unfolding is_sealed total
  sealed_room h e = omega (arith, h, length-drop at s, leb-true change_size (length bs) (and_left _ _ e))

  pub change_absent : (mark : ℕ) → is_sealed change_widths bs ≡ false → None ≡ key_at mark bs
  unfolding key_at
  change_absent mark e =
      sym (ap (λ (t : Bool). then_some (t && (eqb (value (take 2 bs)) mark && change_formed here)) here.key) e)

  module _ (ws : List ℕ) (got : ws ≡ numbers (unpacked (replicate width 8) (drop (at + 2) s))) where
    again : ws ≡ numbers (unpacked (replicate width 8) (drop 2 bs))
    again = got ∙ ap (λ (l : List ℕ). numbers (unpacked (replicate width 8) l)) (sym (drop-drop 2 at s))

    change_key : get_or ws 0 0 ≡ here.key
    unfolding unpacked
    change_key = ap (λ (l : List ℕ). get_or l 0 0) again

    pub change_present : (mark m : ℕ) (fine : Bool) → is_sealed change_widths bs ≡ true → m ≡ value (take 2 bs)
        → fine ≡ entries_formed (entries_of 1 ws) → then_some (eqb m mark && fine) (get_or ws 0 0) ≡ key_at mark bs
    unfolding key_at unpacked entries_at all_of
    change_present mark m fine e p q =
        ap (λ (k : ℕ). then_some (eqb m mark && fine) k) change_key
        ∙ ap₂ (λ (x : ℕ) (t : Bool). then_some (eqb x mark && t) here.key) p
        (q ∙ ap (λ (l : List ℕ). entries_formed (entries_of 1 l)) again ∙ and-true (change_formed here))
        ∙ sym (ap (λ (t : Bool). then_some (t && (eqb (value (take 2 bs)) mark && change_formed here)) here.key) e)

  -- ---- a record's step: none where there is none, or where the key is not above the one before

  step : (above : Option ℕ) (w : Want) (t : Bool) → t ≡ sound_at (floor_of above) w bs
      → length (rec_bytes (rec_at w bs)) ≡ change_size
      → then_some t (record { size = change_size; above = above_after above (rec_at w bs) }) ≡ step_at above w bs
  unfolding step_at
  step above w t e l =
      ap₂ (λ (u : Bool) (n : ℕ). then_some u (record { size = n; above = above_after above (rec_at w bs) })) e (sym l)

  entry_step : (above : Option ℕ) (t : Bool) → t ≡ change_sound entry_mark bs
      → then_some t (record { size = change_size; above = above }) ≡ step_at above Entry bs
  unfolding sound_at
  entry_step above t e = step above Entry t e (change_long entry_mark here)

  pub entry_absent : (above : Option ℕ) → None ≡ key_at entry_mark bs → None ≡ step_at above Entry bs
  unfolding key_at
  entry_absent above e = entry_step above false (sym (unsaid _ _ e))

  pub entry_present : (above : Option ℕ) (k : ℕ) → Some k ≡ key_at entry_mark bs
      → Some (record { size = change_size; above = above }) ≡ step_at above Entry bs
  unfolding key_at
  entry_present above k e = entry_step above true (sym (said _ _ k e).0)

  in_order : (a b c d : Bool) → ((a && (b && d)) && c) ≡ (a && (b && (c && d)))
  in_order true true true true = refl
  in_order true true true false = refl
  in_order true true false true = refl
  in_order true true false false = refl
  in_order true false c d = refl
  in_order false b c d = refl

  key_step : (above : Option ℕ) (t : Bool) → t ≡ (change_sound key_mark bs && leb (floor_of above) here.key)
      → then_some t (record { size = change_size; above = Some here.key }) ≡ step_at above Key bs
  unfolding sound_at
  key_step above t e =
      step above Key t
      (e ∙ in_order (is_sealed change_widths bs) (eqb (value (take 2 bs)) key_mark) (leb (floor_of above) here.key)
      (change_formed here)) (change_long key_mark here)

  pub key_absent : (above : Option ℕ) → None ≡ key_at key_mark bs → None ≡ step_at above Key bs
  unfolding key_at
  key_absent above e =
      key_step above false (sym (ap (λ (t : Bool). t && leb (floor_of above) here.key) (unsaid _ _ e)))

  pub key_present : (above : Option ℕ) (k : ℕ) (t : Bool) → Some k ≡ key_at key_mark bs → t ≡ leb (floor_of above) k
      → then_some t (record { size = change_size; above = Some k }) ≡ step_at above Key bs
  unfolding key_at
  key_present above k t e q =
      let p = said _ _ k e in
      ap (λ (j : ℕ). then_some t (record { size = change_size; above = Some j })) p.1
      ∙ key_step above t
      (q ∙ ap (leb (floor_of above)) p.1 ∙ sym (ap (λ (u : Bool). u && leb (floor_of above) here.key) p.0))

  pub stop_absent : (above : Option ℕ) (m : Bool) → None ≡ size_at 0 (Stop m) bs → None ≡ step_at above (Stop m) bs
  unfolding size_at step_at sound_at
  stop_absent above m e =
      sym (ap (λ (t : Bool). then_some t (record { size = length (rec_bytes (rec_at (Stop m) bs)); above = above }))
      (unsaid _ _ e))

  pub stop_present : (above : Option ℕ) (m : Bool) (n : ℕ) → Some n ≡ size_at 0 (Stop m) bs
      → Some (record { size = n; above = above }) ≡ step_at above (Stop m) bs
  unfolding size_at step_at sound_at
  stop_present above m n e =
      let p = said _ _ n e in
      ap (λ (k : ℕ). Some (record { size = k; above = above })) p.1
      ∙ sym (ap (λ (t : Bool). then_some t (record { size = length (rec_bytes (rec_at (Stop m) bs)); above = above }))
      p.0)
