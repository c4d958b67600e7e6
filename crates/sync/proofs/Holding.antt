-- The snapshot held after a sync, and the words that stand for it.
use Rattle.words.proofs.Prelude.{arith, ◌≡◌, sym, ap₂, ◌∙◌, ℕ, ◌-◌, List, length}
use Rattle.std.specs.Prelude.{Option as Optional, Some, None}
use Rattle.words.proofs.CodedLaws.{entries_length}
use Rattle.entry.specs.{Limits.snapshot_words, Change.change_code, Change.entries_of, Guards.replied}
use Rattle.entry.proofs.SliceLaws.{laid_stored}
use Rattle.snapshot.specs.{Calls.Outcome, Calls.outcome as snapshot_outcome, Inner.Holds, Inner.Shows}
use Rattle.snapshot.specs.{Inner.fold_written}
use Rattle.snapshot.proofs.Calling.{over_written}
use Rattle.model.specs.Numbers.{log_decided}
use Rattle.state_cache.specs.{State.Raw, State.numbers_in, Inner.Ready}
use Rattle.sync.specs.Inner.{snapshot_then}
use Rattle.sync.specs.declared.SnapshotType.{SnapshotType}
use Rattle.sync.specs.declared.SnapshotType.TheVariants.{Complete}

-- a snapshot in form, as it stands in its words
pub held_written_lem : (n : ℕ) (ws out : List ℕ) → Holds snapshot_words n ws
    → snapshot_outcome (replied n) ws ≡ fold_written (entries_of n ws) out
held_written_lem n ws out h =
    let k : length (entries_of n ws) ≡ n = entries_length change_code n ws in
    ap₂ (λ (j : ℕ) (t : List ℕ). snapshot_outcome (replied j) t) (sym k) (laid_stored snapshot_words n ws h.laid)
    ∙ over_written (entries_of n ws) out (omega (arith, k, h.laid.fits))

pub held_shows : (n : ℕ) (ws : List ℕ) → Holds snapshot_words n ws → Shows n ws
held_shows n ws h = record { inside = omega (arith, h.laid.fits, h.laid.long); sound = h.laid.fine }

-- by its kind
module _ (kind : Optional SnapshotType) (r : Raw) (g : Ready r) (keys : ℕ) (incoming : List ℕ) where
  abbrev told : Outcome
  told =
      fold_written (snapshot_then kind (entries_of r.index.keys r.snapshot) (entries_of (log_decided
      (numbers_in r.index) - r.index.compacted.0) r.log) (entries_of keys incoming)) r.snapshot

  pub hold_plain : kind ≡ None → snapshot_outcome (replied r.index.keys) r.snapshot ≡ told
  hold_plain e = rw e (held_written_lem r.index.keys r.snapshot r.snapshot g.snapshot)

  pub hold_complete : kind ≡ Some Complete → Holds snapshot_words keys incoming → (exit : List ℕ) → exit ≡ incoming
      → snapshot_outcome (replied keys) exit ≡ told
  hold_complete e h exit q = rw (e, q) (held_written_lem keys incoming r.snapshot h)
