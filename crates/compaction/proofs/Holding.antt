-- The snapshot that is held after a compaction, written in its place on a lent state.
use Rattle.words.proofs.Prelude.{◌≡◌, sym, ap, ◌∙◌, ℕ, ◌+◌, ◌-◌, ◌≤◌, true, false, List, [], replicate}
use Rattle.words.specs.{Words.laid, Coded.words_of, Coded.entries_at}
use Rattle.entry.specs.{Limits.snapshot_words, Change.Change, Change.entries_of, Guards.first, Guards.refused}
use Rattle.entry.specs.{Guards.replied, declared.Compaction.TheVariants.Trim}
use Rattle.entry.specs.{declared.Compaction.TheVariants.Snapshot}
use Rattle.entry.proofs.GuardLaws.{first_refuses, first_goes_on}
use Rattle.snapshot.specs.{Folds.fold_onto, Calls.outcome, Calls.written_by, Inner.fold_written}
use Rattle.model.specs.Log.{Log, folded_to, hole}
use Rattle.state_cache.specs.{State.Raw, State.formed, State.log_of, Inner.hole_in}
use Rattle.state_cache.proofs.Stands.{stands_of, hole_is}
use Rattle.compaction.specs.Inner.{held_written}
use Rattle.compaction.proofs.Folding.{fold_is}

module _ (r : Raw) (to : ℕ) where
  abbrev s : Log
  s = log_of r

  -- all words are cleared
  pub hold_none : (exit : List ℕ) → exit ≡ replicate snapshot_words 0
      → outcome (replied 0) exit ≡ held_written Trim to r
  unfolding first laid words_of
  hold_none exit e = ap (λ (ws : List ℕ). outcome (replied 0) ws) e

  module _ (ok : formed r ≡ true) where
    pub hold_holed : hole_in r.index ≡ true → outcome (refused 16 0) r.snapshot ≡ held_written Snapshot to r
    hold_holed h = rw (first_refuses 16 0 (hole s.run) _ (hole_is s r (stands_of r ok) ∙ h))

    -- a fold of the entries below, with nothing folded after it
    pub hold_fold : hole_in r.index ≡ false → to ≤ r.index.compacted.0 + r.index.retained
        → fold_written (fold_onto (fold_onto (entries_of r.index.keys r.snapshot)
        (entries_of (to - r.index.compacted.0) r.log)) (entries_of 0 [])) r.snapshot ≡ held_written Snapshot to r
    unfolding fold_onto entries_at
    hold_fold whole in_run =
        ap (λ (es : List Change). fold_written es r.snapshot) (fold_is r ok to in_run)
        ∙ ap (λ v. written_by v (folded_to to s.run) r.snapshot)
        (sym (first_goes_on 16 0 (hole s.run) _ (hole_is s r (stands_of r ok) ∙ whole)))
