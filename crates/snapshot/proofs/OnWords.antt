-- Demand 3, its first sentence, for the exported calls on lent words: reply, refusal and every word of the output.
use Rattle.words.proofs.Prelude.{arith, ◌≡◌, refl, sym, ap, ap₂, ◌∙◌, ℕ, ◌≤◌, true, ◌&&◌, eqb, eq-eqb, Option, none}
use Rattle.words.proofs.Prelude.{some, List, [], ◌++◌, length, replicate}
use mathlib.Core.Option.{bind}
use Rattle.words.specs.Coded.{entries_at}
use Rattle.words.proofs.Tests.{Reach, reached, short, reach, both_true}
use Rattle.words.proofs.CodedLaws.{entries_length}
use Rattle.entry.specs.Limits.{key_room, snapshot_words}
use Rattle.entry.specs.Change.{Change, change_code, entries_formed, entries_of, entries_in, slice_formed, stored}
use Rattle.entry.specs.Guards.{first, refused, replied}
use Rattle.entry.proofs.SliceLaws.{laid_stored, slice_whole, slice_fine, slice_join, entries_join, stored_entries}
use Rattle.snapshot.specs.Folds.{fold, merge, rising, within}
use Rattle.snapshot.specs.Calls.{snapshot_formed, Outcome, outcome, written_by, fold_guards, fold_call, merge_call}
use Rattle.snapshot.specs.Calls.{afterwards}
use Rattle.snapshot.proofs.Forming.{formed_fold, formed_merge}
use Rattle.snapshot.proofs.Algebra.{fold_join_within, merge_assoc_within, merge_empty, empty_merge, fold_rises}
use Rattle.snapshot.proofs.Algebra.{merge_rises, within_fits, within_none}
use Rattle.snapshot.proofs.Calling.{over_refused, over_written, snapshot_holds, snapshot_stored, empty_formed}
use Rattle.snapshot.proofs.Calling.{fold_stands, merge_stands}

-- what a call shows of a snapshot in its room: written out, or refused for room
shown : Option (List Change) → List ℕ → Outcome
shown none out = outcome (refused 8 0) out
shown (some s) out = outcome (replied (length s)) (stored snapshot_words s)

written_shown : (s : List Change) (out : List ℕ) → written_by (first (fold_guards s)) s out ≡ shown (within key_room s) out
unfolding shown
written_shown s out = by (reach (length s) key_room)
  where
    by : Reach (length s) key_room → written_by (first (fold_guards s)) s out ≡ shown (within key_room s) out
    by (reached h) = sym (over_written s out h) ∙ rw (within_fits key_room s h)
    by (short h) = sym (over_refused s out h) ∙ rw (within_none key_room s h)

within_some : (s a : List Change) → within key_room s ≡ some a → (s ≡ a) × (length a ≤ key_room)
within_some s a e = by (reach (length s) key_room)
  where
    by : Reach (length s) key_room → (s ≡ a) × (length a ≤ key_room)
    by (reached h) = let f = within_fits key_room s h in let q : s ≡ a = cc in (q, rw q at h)
    by (short h) = let f = within_none key_room s h in let z : ◌≡◌ {A = ℕ} 0 1 = cc in absurd (omega arith)

-- the entries of a snapshot, in form and ascending
record Sound (s : List Change) : Type 0 where
  few : length s ≤ key_room
  fine : entries_formed s ≡ true
  rises : rising s ≡ true

sound_formed : (s : List Change) → Sound s → snapshot_formed (length s) (stored snapshot_words s) ≡ true
sound_formed s o = snapshot_stored s o.few o.fine o.rises

module _ (out : List ℕ) (room : length out ≡ snapshot_words) where
  fold_shown : (entries : List ℕ) → slice_formed entries ≡ true
      → fold_call entries out ≡ shown (within key_room (fold (entries_in entries))) out
  fold_shown entries e =
      sym (fold_stands entries out
      (both_true (slice_formed entries) (eqb (length out) snapshot_words) e (eq-eqb (length out) snapshot_words room)))
      ∙ (unfold fold entries_at in written_shown (fold (entries_in entries)) out)

  merge_shown : (a : List ℕ) (n : ℕ) (b : List ℕ) (m : ℕ) → snapshot_formed n a ≡ true → snapshot_formed m b ≡ true
      → merge_call a n b m out ≡ shown (within key_room (merge (entries_of n a) (entries_of m b))) out
  merge_shown a n b m p q =
      sym (merge_stands a n b m out
      (both_true (snapshot_formed n a) (snapshot_formed m b && eqb (length out) snapshot_words) p
      (both_true (snapshot_formed m b) (eqb (length out) snapshot_words) q (eq-eqb (length out) snapshot_words room))))
      ∙ (unfold merge in written_shown (merge (entries_of n a) (entries_of m b)) out)

  -- the same of snapshots as they are written
  merge_stored : (a b : List Change) → Sound a → Sound b
      → merge_call (stored snapshot_words a) (length a) (stored snapshot_words b) (length b) out
      ≡ shown (within key_room (merge a b)) out
  merge_stored a b p q =
      merge_shown (stored snapshot_words a) (length a) (stored snapshot_words b) (length b) (sound_formed a p)
      (sound_formed b q)
      ∙ ap₂ (λ (x y : List Change). shown (within key_room (merge x y)) out) (stored_entries snapshot_words a p.fine)
      (stored_entries snapshot_words b q.fine)

fold_sound : (xs : List ℕ) (s : List Change) → slice_formed xs ≡ true → within key_room (fold (entries_in xs)) ≡ some s
    → Sound s
fold_sound xs s p e =
    let w = within_some (fold (entries_in xs)) s e in
    record {
      few = w.1;
      fine = rw w.0 at (formed_fold (entries_in xs) (slice_fine xs p));
      rises = rw w.0 at (fold_rises (entries_in xs));
    }

-- What `fold` writes for two runs joined is what `merge` writes for their two folds; either is refused exactly if the
-- other is.
module _ (xs ys o₁ o₂ out : List ℕ)
    (p : slice_formed xs ≡ true)
    (q : slice_formed ys ≡ true)
    (room₁ : length o₁ ≡ snapshot_words)
    (room₂ : length o₂ ≡ snapshot_words)
    (room : length out ≡ snapshot_words)
  where
    pub fold_join_calls : fold_call (xs ++ ys) out
        ≡ afterwards (fold_call xs o₁) out
        (λ (a : List ℕ) (n : ℕ). afterwards (fold_call ys o₂) out (λ (b : List ℕ) (m : ℕ). merge_call a n b m out))
    fold_join_calls =
        fold_shown out room (xs ++ ys) (slice_join xs ys p q)
        ∙ ap (λ (es : List Change). shown (within key_room (fold es)) out) (entries_join xs ys (slice_whole xs p))
        ∙ ap (λ (w : Option (List Change)). shown w out) (fold_join_within key_room (entries_in xs) (entries_in ys))
        ∙ by (within key_room (fold (entries_in xs))) refl (within key_room (fold (entries_in ys))) refl
        ∙ ap₂ (λ (u v : Outcome). afterwards u out
        (λ (a : List ℕ) (n : ℕ). afterwards v out (λ (b : List ℕ) (m : ℕ). merge_call a n b m out)))
        (sym (fold_shown o₁ room₁ xs p)) (sym (fold_shown o₂ room₂ ys q))
      where
        by : (u : Option (List Change)) → within key_room (fold (entries_in xs)) ≡ u → (v : Option (List Change))
            → within key_room (fold (entries_in ys)) ≡ v
            → shown (bind u (λ a. bind v (λ b. within key_room (merge a b)))) out
            ≡ afterwards (shown u o₁) out
            (λ (a : List ℕ) (n : ℕ). afterwards (shown v o₂) out (λ (b : List ℕ) (m : ℕ). merge_call a n b m out))
        by none e v f = unfold bind shown in refl
        by (some a) e none f = unfold bind shown in refl
        by (some a) e (some b) f = unfold bind shown in
            sym (unfold shown in merge_stored out room a b (fold_sound xs a p e) (fold_sound ys b q f))

-- `merge` is associative on snapshots in form, and refused one way exactly if the other way.
merge_sound : (a : List ℕ) (n : ℕ) (b : List ℕ) (m : ℕ) (s : List Change) → snapshot_formed n a ≡ true
    → snapshot_formed m b ≡ true
    → within key_room (merge (entries_of n a) (entries_of m b)) ≡ some s → Sound s
merge_sound a n b m s p q e =
    let w = within_some (merge (entries_of n a) (entries_of m b)) s e in
    let h = snapshot_holds n a p in
    record {
      few = w.1;
      fine = rw w.0 at (formed_merge (entries_of n a) (entries_of m b) h.laid.fine
          (snapshot_holds m b q).laid.fine);
      rises = rw w.0 at (merge_rises (entries_of n a) (entries_of m b) h.rises);
    }

module _ (a : List ℕ) (n : ℕ) (b : List ℕ) (m : ℕ) (c : List ℕ) (l : ℕ) (o out : List ℕ)
    (p : snapshot_formed n a ≡ true)
    (q : snapshot_formed m b ≡ true)
    (r : snapshot_formed l c ≡ true)
    (room₁ : length o ≡ snapshot_words)
    (room : length out ≡ snapshot_words)
  where
    pub merge_assoc_calls : afterwards (merge_call a n b m o) out (λ (s : List ℕ) (k : ℕ). merge_call s k c l out)
        ≡ afterwards (merge_call b m c l o) out (λ (s : List ℕ) (k : ℕ). merge_call a n s k out)
    merge_assoc_calls =
        ap (λ (u : Outcome). afterwards u out (λ (s : List ℕ) (k : ℕ). merge_call s k c l out))
        (merge_shown o room₁ a n b m p q)
        ∙ left (within key_room (merge (entries_of n a) (entries_of m b))) refl
        ∙ ap (λ (w : Option (List Change)). shown w out)
        (merge_assoc_within key_room (entries_of n a) (entries_of m b) (entries_of l c) (snapshot_holds m b q).rises)
        ∙ right (within key_room (merge (entries_of m b) (entries_of l c))) refl
        ∙ ap (λ (u : Outcome). afterwards u out (λ (s : List ℕ) (k : ℕ). merge_call a n s k out))
        (sym (merge_shown o room₁ b m c l q r))
      where
        left : (w : Option (List Change)) → within key_room (merge (entries_of n a) (entries_of m b)) ≡ w
            → afterwards (shown w o) out (λ (s : List ℕ) (k : ℕ). merge_call s k c l out)
            ≡ shown (bind w (λ s. within key_room (merge s (entries_of l c)))) out
        left none e = unfold bind shown in refl
        left (some s) e =
            let o' = merge_sound a n b m s p q e in
            unfold bind shown in
            (unfold shown in merge_shown out room (stored snapshot_words s) (length s) c l (sound_formed s o') r)
            ∙ ap (λ (x : List Change). shown (within key_room (merge x (entries_of l c))) out)
            (stored_entries snapshot_words s o'.fine)

        right : (w : Option (List Change)) → within key_room (merge (entries_of m b) (entries_of l c)) ≡ w
            → shown (bind w (λ s. within key_room (merge (entries_of n a) s))) out
            ≡ afterwards (shown w o) out (λ (s : List ℕ) (k : ℕ). merge_call a n s k out)
        right none e = unfold bind shown in refl
        right (some s) e =
            let o' = merge_sound b m c l s q r e in
            unfold bind shown in
            ap (λ (x : List Change). shown (within key_room (merge (entries_of n a) x)) out)
            (sym (stored_entries snapshot_words s o'.fine))
            ∙ sym (unfold shown in merge_shown out room a n (stored snapshot_words s) (length s) p (sound_formed s o'))

-- The empty snapshot is neutral on both sides: what is written is the snapshot itself.
module _ (a : List ℕ) (n : ℕ) (out : List ℕ) (p : snapshot_formed n a ≡ true) (room : length out ≡ snapshot_words) where
  itself : (s : List Change) → s ≡ entries_of n a → shown (within key_room s) out ≡ outcome (replied n) a
  unfolding shown
  itself s e =
      let l = (snapshot_holds n a p).laid in
      let k : length s ≡ n = rw e (entries_length change_code n a) in
      let w : stored snapshot_words s ≡ a = rw e (sym (laid_stored snapshot_words n a l)) in
      rw (within_fits key_room s (omega (arith, l.fits))) (ap₂ (λ (x : ℕ) (ws : List ℕ). outcome (replied x) ws) k w)

  pub merge_empty_calls : merge_call a n (replicate snapshot_words 0) 0 out ≡ outcome (replied n) a
  unfolding entries_at
  merge_empty_calls =
      merge_shown out room a n (replicate snapshot_words 0) 0 p empty_formed
      ∙ itself (merge (entries_of n a) []) (merge_empty (entries_of n a))

  pub empty_merge_calls : merge_call (replicate snapshot_words 0) 0 a n out ≡ outcome (replied n) a
  unfolding entries_at
  empty_merge_calls =
      merge_shown out room (replicate snapshot_words 0) 0 a n empty_formed p
      ∙ itself (merge [] (entries_of n a)) (empty_merge (entries_of n a) (snapshot_holds n a p).rises)
