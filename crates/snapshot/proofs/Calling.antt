-- The calls on lent words: each way out of them against its definition.
use Rattle.words.proofs.Prelude.{arith, ◌≡◌, refl, sym, ap, ap₂, ◌∙◌, ℕ, suc, ◌/◌, ◌≤◌, ◌<◌, Bool, true, false, ◌&&◌}
use Rattle.words.proofs.Prelude.{not, eqb, ltb, eqb-true, lt-ltb, le-ltb, none, some, List, [], ◌∷◌, length, drop}
use Rattle.words.proofs.Prelude.{replicate}
use Rattle.words.specs.{All.all_of, Words.laid, Coded.words_of, Coded.entries_at}
use Rattle.words.proofs.Tests.{and_left, and_right}
use Rattle.entry.specs.{Limits.width, Limits.key_room, Limits.snapshot_words, Change.Change, Change.entries_of}
use Rattle.entry.specs.{Change.entries_in, Change.slice_formed, Change.stored, Change.stored_in, Change.entries_formed}
use Rattle.entry.specs.{Guards.guard, Guards.Verdict, Guards.passes, Guards.refuses, Guards.first, Guards.refused}
use Rattle.entry.specs.{Guards.replied, Guards.refused_by, Refusals.number_of, Refusals.carried_of}
use Rattle.entry.specs.{declared.Refusal.Refusal, declared.Refusal.TheVariants.TooManyKeys}
use Rattle.entry.specs.{declared.Refusal.TheVariants.Malformed, Inner.change_at}
use Rattle.entry.proofs.{ChangeLaws.entry_cons, GuardLaws.first_refuses, GuardLaws.first_goes_on, SliceLaws.laid_of}
use Rattle.entry.proofs.{SliceLaws.slice_fine, SliceLaws.stored_entries, SliceLaws.stored_laid}
use Rattle.snapshot.specs.Folds.{rising, fold_onto, fold, merge, find}
use Rattle.snapshot.specs.Calls.{snapshot_formed, Outcome, outcome, written_by, fold_guards, folded, fold_call}
use Rattle.snapshot.specs.Calls.{merge_call, find_call}
use Rattle.snapshot.specs.Inner.{rank, spot_of, Holds, FoldIs, Aside, folded_out}
use Rattle.std.specs.Prelude.{Result, Ok, Err}
use Rattle.snapshot.proofs.{Searching.spot_at, Searching.spot_before, Searching.spot_inside, Finds.find_absent}
use Rattle.snapshot.proofs.{Finds.find_found, Putting.folded_keys, Putting.folded_refused, Putting.folded_over}

-- refusal 8, or the snapshot written out
module _ (es : List Change) (out : List ℕ) where
  pub over_refused : key_room < length es
      → outcome (refused_by TooManyKeys) out ≡ written_by (first (fold_guards es)) es out
  over_refused h = rw (first_refuses 8 0 (ltb key_room (length es)) [] (lt-ltb key_room (length es) h))

  pub over_written : length es ≤ key_room
      → outcome (replied (length es)) (stored snapshot_words es) ≡ written_by (first (fold_guards es)) es out
  unfolding first
  over_written h = rw (first_goes_on 8 0 (ltb key_room (length es)) [] (le-ltb key_room (length es) h))

  module _ (r : Result ℕ Refusal) (t : List ℕ) (p : FoldIs snapshot_words es r t) where
    pub aside_refused : (x : Refusal) → r ≡ Err x
        → outcome (folded r) out ≡ written_by (first (fold_guards es)) es out
    aside_refused x e =
        ap (λ (y : Result ℕ Refusal). outcome (folded y) out) (folded_over snapshot_words es r x p.reply e)
        ∙ over_refused (omega (arith, folded_refused snapshot_words es x (sym p.reply ∙ e)))

    pub aside_written : (k : ℕ) → r ≡ Ok k → outcome (folded (Ok k)) t ≡ written_by (first (fold_guards es)) es out
    aside_written k e =
        let q = folded_keys snapshot_words es k (sym p.reply ∙ e) in
        ap₂ (λ (n : ℕ) (ws : List ℕ). outcome (replied n) ws) q.1 (p.words_are q.0)
        ∙ over_written (omega (arith, q.0))

-- what a fold's answer tells, whatever the verdict
module _ (v : Verdict) (es : List Change) (out exit : List ℕ) (a : Result ℕ Refusal)
    (f : outcome (folded a) exit ≡ written_by v es out) where
  pub wrote_nothing : (x : Refusal) → a ≡ Err x → (v ≡ refuses (number_of x) (carried_of x)) × (exit ≡ out)
  wrote_nothing x p = go v (ap (λ (b : Result ℕ Refusal). outcome (folded b) exit) (sym p) ∙ f)
    where
      go : (u : Verdict) → outcome (refused_by x) exit ≡ written_by u es out
          → (u ≡ refuses (number_of x) (carried_of x)) × (exit ≡ out)
      go passes e =
          let y : refused_by x ≡ replied (length es) = ap (λ (o : Outcome). o.answer) e in
          let z : ◌≡◌ {A = ℕ} 0 1 = cc in
          absurd (omega arith)
      go (refuses n k) e =
          let y : refused_by x ≡ refused n k = ap (λ (o : Outcome). o.answer) e in
          (cc, ap (λ (o : Outcome). o.output) e)

  pub wrote_keys : (k : ℕ) → a ≡ Ok k → (v ≡ passes) × (k ≡ length es) × (exit ≡ stored snapshot_words es)
  wrote_keys k p = go v (ap (λ (b : Result ℕ Refusal). outcome (folded b) exit) (sym p) ∙ f)
    where
      go : (u : Verdict) → outcome (replied k) exit ≡ written_by u es out
          → (u ≡ passes) × (k ≡ length es) × (exit ≡ stored snapshot_words es)
      go passes e =
          let y : replied k ≡ replied (length es) = ap (λ (o : Outcome). o.answer) e in
          (refl, cc, ap (λ (o : Outcome). o.output) e)
      go (refuses n j) e =
          let y : replied k ≡ refused n j = ap (λ (o : Outcome). o.answer) e in
          let z : ◌≡◌ {A = ℕ} 0 1 = cc in
          absurd (omega arith)

-- the same of what a fold in scratch words comes to
module _ (kept : ℕ) (base : List ℕ) (n : ℕ) (entries out : List ℕ) (a : Aside kept base n entries out) where
  module _ (r : Result ℕ Refusal) (t : List ℕ)
      (p : FoldIs (length base) (fold_onto (entries_of kept base) (entries_of n entries)) r t) where
    scratch_is : FoldIs snapshot_words (fold_onto (entries_of kept base) (entries_of n entries)) r t
    scratch_is = rw a.base_holds.laid.long at p

    pub out_refused : (x : Refusal) → r ≡ Err x → outcome (folded r) out ≡ folded_out kept base n entries out
    out_refused x e = aside_refused (fold_onto (entries_of kept base) (entries_of n entries)) out r t scratch_is x e

    pub out_written : (k : ℕ) → r ≡ Ok k → outcome (folded (Ok k)) t ≡ folded_out kept base n entries out
    out_written k e = aside_written (fold_onto (entries_of kept base) (entries_of n entries)) out r t scratch_is k e

-- a snapshot in form, and the empty one
pub snapshot_holds : (n : ℕ) (ws : List ℕ) → snapshot_formed n ws ≡ true → Holds snapshot_words n ws
unfolding snapshot_formed
snapshot_holds n ws e =
    record {
      laid = laid_of snapshot_words n ws (and_left _ _ e);
      rises = and_right (stored_in snapshot_words n ws) (rising (entries_of n ws)) e;
    }

pub snapshot_stored : (es : List Change) → length es ≤ key_room → entries_formed es ≡ true → rising es ≡ true
    → snapshot_formed (length es) (stored snapshot_words es) ≡ true
unfolding snapshot_formed
snapshot_stored es h fine up =
    rw (stored_laid snapshot_words es (omega arith) fine, stored_entries snapshot_words es fine) up

pub empty_formed : snapshot_formed 0 (replicate snapshot_words 0) ≡ true
unfolding laid words_of all_of rising
empty_formed = snapshot_stored [] (omega arith) refl refl

-- refusal 11, and what follows where it is not given
module _ (ok : Bool) (es : List Change) (out : List ℕ) where
  malformed : ok ≡ false → outcome (refused_by Malformed) out
      ≡ written_by (first (guard 11 0 (not ok) ∷ fold_guards es)) es out
  malformed e = rw (first_refuses 11 0 (not ok) (fold_guards es) (rw e))

  in_form : ok ≡ true → written_by (first (fold_guards es)) es out
      ≡ written_by (first (guard 11 0 (not ok) ∷ fold_guards es)) es out
  in_form e = rw (first_goes_on 11 0 (not ok) (fold_guards es) (rw e))

module _ (entries out : List ℕ) where
  abbrev pub foldable : Bool
  foldable = slice_formed entries && eqb (length out) snapshot_words

  pub fold_malformed : foldable ≡ false → outcome (refused_by Malformed) out ≡ fold_call entries out
  unfolding fold_call
  fold_malformed e = malformed foldable (fold (entries_in entries)) out e

  module _ (e : foldable ≡ true) where
    pub fold_needs : Aside 0 (replicate snapshot_words 0) (length entries / width) entries out
    fold_needs = record {
      base_holds = snapshot_holds 0 (replicate snapshot_words 0) empty_formed;
      entries_show = record { inside = omega arith; sound = slice_fine entries (and_left _ _ e) };
      room = eqb-true (length out) snapshot_words (and_right (slice_formed entries) _ e);
    }

    pub fold_stands : folded_out 0 (replicate snapshot_words 0) (length entries / width) entries out
        ≡ fold_call entries out
    unfolding fold_call fold entries_at
    fold_stands = in_form foldable (fold (entries_in entries)) out e

module _ (a : List ℕ) (n : ℕ) (b : List ℕ) (m : ℕ) (out : List ℕ) where
  abbrev pub mergeable : Bool
  mergeable = snapshot_formed n a && (snapshot_formed m b && eqb (length out) snapshot_words)

  pub merge_malformed : mergeable ≡ false → outcome (refused_by Malformed) out ≡ merge_call a n b m out
  unfolding merge_call
  merge_malformed e = malformed mergeable (merge (entries_of n a) (entries_of m b)) out e

  module _ (e : mergeable ≡ true) where
    pub merge_needs : Aside n a m b out
    merge_needs =
        let e₂ = and_right (snapshot_formed n a) _ e in
        let h = snapshot_holds m b (and_left _ _ e₂) in
        record {
          base_holds = snapshot_holds n a (and_left _ _ e);
          entries_show = record { inside = omega (arith, h.laid.fits, h.laid.long); sound = h.laid.fine };
          room = eqb-true (length out) snapshot_words (and_right (snapshot_formed m b) _ e₂);
        }

    pub merge_stands : folded_out n a m b out ≡ merge_call a n b m out
    unfolding merge_call merge
    merge_stands = in_form mergeable (merge (entries_of n a) (entries_of m b)) out e

pub find_malformed : (n : ℕ) (ws : List ℕ) (k : ℕ) → snapshot_formed n ws ≡ false → refused_by Malformed ≡ find_call ws n k
unfolding find_call
find_malformed n ws k e = rw (first_refuses 11 0 (not (snapshot_formed n ws)) [] (rw e))

pub find_stands : (n : ℕ) (ws : List ℕ) (k : ℕ) → snapshot_formed n ws ≡ true
    → replied (find k (entries_of n ws)) ≡ find_call ws n k
unfolding find_call first
find_stands n ws k ok = sym (rw (first_goes_on 11 0 (not (snapshot_formed n ws)) [] (rw ok)))

-- a search's end, as it is told
module _ (n : ℕ) (ws : List ℕ) (k i : ℕ) where
  pub look_none : Err i ≡ spot_of (entries_of n ws) k → none ≡ find k (entries_of n ws)
  look_none e = sym (rw (find_absent k (entries_of n ws) (spot_before (entries_of n ws) k i (sym e)).0))

  pub look_at : Ok i ≡ spot_of (entries_of n ws) k → some (change_at ws i).said ≡ find k (entries_of n ws)
  look_at e =
      let at = spot_at (entries_of n ws) k i (sym e) in
      let q : drop (rank (entries_of n ws) k) (entries_of n ws)
      ≡ change_at ws i ∷ drop (suc i) (entries_of n ws) =
      rw at.1 (entry_cons i n ws (spot_inside n ws k i e)) in
      sym (find_found k (entries_of n ws) at.0 (change_at ws i) (drop (suc i) (entries_of n ws)) q)
