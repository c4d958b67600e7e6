-- A fold over a snapshot in its place: two folds one after the other, made in scratch words.
use Rattle.words.proofs.Prelude.{arith, ◌≡◌, sym, ap, ap₂, ◌∙◌, ℕ, ◌*◌, ◌≤◌, true, List, length}
use Rattle.entry.specs.{Limits.width, Limits.snapshot_words, Change.Change, Change.entries_formed, Change.entries_of}
use Rattle.entry.specs.{Change.stored, declared.Refusal.Refusal}
use Rattle.entry.proofs.SliceLaws.{stored_entries}
use Rattle.snapshot.specs.{Folds.fold_onto, Calls.outcome, Calls.folded, Inner.Shows, Inner.FoldIs, Inner.Aside}
use Rattle.snapshot.specs.{Inner.fold_written, Inner.folded_out}
use Rattle.std.specs.Prelude.{Result, Ok, Err}
use Rattle.snapshot.proofs.{Folds.rising_onto, Forming.formed_onto, Room.onto_grows, Putting.folded_keys}
use Rattle.snapshot.proofs.{Putting.folded_refused, Putting.folded_over, Calling.over_refused}
use Rattle.snapshot.proofs.{Calling.snapshot_holds, Calling.snapshot_stored}

module _ (kept : ℕ) (base : List ℕ) (n : ℕ) (entries : List ℕ) (m : ℕ) (more : List ℕ)
    (a : Aside kept base n entries base) (w : Shows m more) where
  abbrev first : List Change
  first = fold_onto (entries_of kept base) (entries_of n entries)

  abbrev all : List Change
  all = fold_onto first (entries_of m more)

  module _ (r : Result ℕ Refusal) (t : List ℕ) (p : FoldIs (length base) first r t) where
    is : FoldIs snapshot_words first r t
    is = rw a.base_holds.laid.long at p

    pub twice_refused : (x : Refusal) → r ≡ Err x → outcome (folded r) base ≡ fold_written all base
    twice_refused x e =
        let o = folded_refused snapshot_words first x (sym is.reply ∙ e) in
        ap (λ (y : Result ℕ Refusal). outcome (folded y) base) (folded_over snapshot_words first r x is.reply e)
        ∙ over_refused all base (omega (arith, onto_grows first (entries_of m more)))

    module _ (k : ℕ) (e : r ≡ Ok k) where
      fits : (length first * width ≤ snapshot_words) × (k ≡ length first)
      fits = folded_keys snapshot_words first k (sym is.reply ∙ e)

      fine : entries_formed first ≡ true
      fine = formed_onto (entries_of kept base) (entries_of n entries) a.base_holds.laid.fine
          a.entries_show.sound

      pub twice_next : Aside k t m more base
      twice_next = record {
        base_holds =
            rw (fits.1, is.words_are fits.0)
            (snapshot_holds (length first) (stored snapshot_words first)
            (snapshot_stored first (omega (arith, fits.0)) fine
            (rising_onto (entries_of kept base) (entries_of n entries) a.base_holds.rises)));
        entries_show = w;
        room = a.room;
      }

      pub twice_folds : folded_out k t m more base ≡ fold_written all base
      twice_folds =
          ap (λ (es : List Change). fold_written (fold_onto es (entries_of m more)) base)
          (ap₂ entries_of fits.1 (is.words_are fits.0) ∙ stored_entries snapshot_words first fine)
