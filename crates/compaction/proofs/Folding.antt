-- The entries below an index folded onto the held snapshot, on a lent state: the model's `folded_to`.
use Rattle.words.proofs.Prelude.{arith, ◌≡◌, sym, ap₂, ◌∙◌, ℕ, ◌+◌, ◌-◌, ◌≤◌, true, List, length, take}
use Rattle.words.proofs.{Alls.all_take, CodedLaws.entries_take}
use Rattle.entry.specs.{Limits.snapshot_words, Change.change_code, Change.change_formed, Change.entries_of}
use Rattle.entry.proofs.SliceLaws.{stored_entries}
use Rattle.snapshot.specs.{Folds.fold_onto, Folds.merge, Inner.Aside}
use Rattle.model.specs.{Numbers.Numbers, Numbers.end_of, Numbers.log_decided, Log.Log, Log.numbers_of, Log.or_empty}
use Rattle.model.specs.{Log.folded_to}
use Rattle.model.specs.{Inner.Sound}
use Rattle.model.proofs.Forms.{ranges, formed_of, snapshot_held_lem}
use Rattle.state_cache.specs.{State.Raw, State.numbers_in, State.formed, State.log_of, Inner.Ready}
use Rattle.state_cache.proofs.Stands.{numbers_are, stands_of, log_formed, ready_of}

-- log-decided is in the run
pub decided_low : (n : Numbers) → Sound n → (last : ℕ) → last ≡ log_decided n → n.compacted ≤ last
decided_low n f last l = rw l (ranges n f).low

pub decided_high : (n : Numbers) → Sound n → (last : ℕ) → last ≡ log_decided n → last ≤ n.compacted + n.retained
decided_high n f last l = rw l (unfold end_of in (ranges n f).high)

module _ (r : Raw) (ok : formed r ≡ true) where
  abbrev s : Log
  s = log_of r

  pub numbers : numbers_of s ≡ numbers_in r.index
  numbers = numbers_are s r (stands_of r ok)

  pub snapshot_is : entries_of r.index.keys r.snapshot ≡ or_empty s.run.held
  snapshot_is =
      let st = stands_of r ok in
      ap₂ entries_of (sym st.run.snapshot_keys) (sym st.snapshot)
      ∙ stored_entries snapshot_words (or_empty s.run.held)
      (snapshot_held_lem s.run.held (formed_of s (log_formed r ok)).snapshot).fine

  module _ (to : ℕ) (in_run : to ≤ r.index.compacted.0 + r.index.retained) where
    below : take (to - s.run.compacted) s.run.retained ≡ entries_of (to - r.index.compacted.0) r.log
    unfolding log_of
    below = entries_take change_code (to - r.index.compacted.0) r.index.retained r.log (omega arith)

    pub fold_is : fold_onto (entries_of r.index.keys r.snapshot) (entries_of (to - r.index.compacted.0) r.log)
        ≡ folded_to to s.run
    unfolding folded_to merge
    fold_is = ap₂ fold_onto snapshot_is (sym below)

    pub fold_needs : (out : List ℕ) → length out ≡ snapshot_words
        → Aside r.index.keys r.snapshot (to - r.index.compacted.0) r.log out
    fold_needs out roomy =
        let g : Ready r = ready_of r ok in
        record {
          base_holds = g.snapshot;
          entries_show = record {
            inside = omega (arith, g.log.fits, g.log.long);
            sound = rw (← below) (all_take change_formed (to - s.run.compacted) s.run.retained
                (formed_of s (log_formed r ok)).entries);
          };
          room = roomy;
        }
