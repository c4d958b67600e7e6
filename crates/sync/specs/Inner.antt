-- What the inner functions say: the snapshot held after a sync, the record after it, its marks, its run and its
-- stop-sign; and the log's words after it.
use Rattle.std.specs.Prelude.{ℕ, ◌+◌, ◌-◌, ◌*◌, ◌≤◌, ◌≡◌, Bool, true, false, ◌||◌, List, length, take, if◌then◌else◌}
use Rattle.std.specs.Prelude.{Option as Optional, Some, None, is_none, is_some, unwrap_or}
use Rattle.words.specs.Words.{laid, spliced}
use Rattle.entry.specs.Limits.{width, entry_room, log_words, snapshot_words}
use Rattle.entry.specs.Change.{Change, Laid, whole_in}
use Rattle.entry.specs.Sign.{no_sign}
use Rattle.entry.specs.declared.Ballot.{Ballot}
use Rattle.snapshot.specs.Folds.{fold_onto}
use Rattle.snapshot.specs.Inner.{Holds}
use Rattle.model.specs.Sync.{part_formed, decided_then, kept_then}
use Rattle.state_cache.specs.State.{Raw, numbers_in}
use Rattle.state_cache.specs.Inner.{Ready, with_run, with_stop}
use Rattle.state_cache.specs.declared.IndexRecord.{IndexRecord}
use Rattle.sync.specs.Requests.{numbers_by, part_by}
use Rattle.sync.specs.declared.LogSync.{LogSync}
use Rattle.sync.specs.declared.SnapshotType.{SnapshotType}
use Rattle.sync.specs.declared.SnapshotType.TheVariants.{Complete, Delta}

-- the snapshot held before, the one lent, or the one lent over all that was decided
abbrev pub snapshot_then : Optional SnapshotType → List Change → List Change → List Change → List Change
snapshot_then None held decided lent = held
snapshot_then (Some Complete) held decided lent = lent
snapshot_then (Some Delta) held decided lent = fold_onto (fold_onto held decided) lent

-- the round, and the larger decided index
abbrev pub marked : Ballot → ℕ → IndexRecord → IndexRecord
marked b d y = record {
  batch_size = y.batch_size;
  retained = y.retained;
  batched = y.batched;
  compacted = y.compacted;
  decided = record { 0 = decided_then d (numbers_in y) };
  promise = y.promise;
  accepted_round = b;
  snapshot_held = y.snapshot_held;
  keys = y.keys;
  stop_held = y.stop_held;
  stop = y.stop;
}

-- how many of the retained entries stay, of a log part with n entries
abbrev pub kept_by : LogSync → ℕ → IndexRecord → ℕ
kept_by x n y = kept_then (numbers_by x n) (numbers_in y)

-- the run and the stop-sign, with the snapshot's keys
abbrev pub synced_index : LogSync → ℕ → ℕ → IndexRecord → IndexRecord
synced_index x n keys y =
    let plain : Bool = is_none x.decided_snapshot in
    with_stop (is_some x.stopsign) (unwrap_or x.stopsign no_sign)
    (with_run (if plain then y.compacted else x.sync_idx) (kept_by x n y + n)
    (y.snapshot_held || is_some x.decided_snapshot) keys
    y)

-- what a suffix of n entries needs to be put into the log, and what that comes to
pub record Fits (x : LogSync) (n : ℕ) (y : IndexRecord) (log suffix : List ℕ) : Type 0 where
  pub up : y.compacted.0 ≤ x.sync_idx.0
  pub few : kept_by x n y ≤ y.retained
  pub room : kept_by x n y + n + y.batched ≤ entry_room
  pub laid_out : Laid log_words (y.retained + y.batched) log
  pub whole : length suffix ≡ n * width

pub record Taken (x : LogSync) (n keys : ℕ) (y : IndexRecord) (log suffix : List ℕ) (z : IndexRecord)
    (exit : List ℕ) : Type 0 where
  pub index : z ≡ synced_index x n keys y
  pub words : exit
      ≡ laid (length log)
      (spliced (kept_by x n y * width) ((y.retained - kept_by x n y) * width) suffix
      (take ((y.retained + y.batched) * width) log))

-- what a sync with a log part needs, once nothing of it is refused with 12 or 11
pub record Syncs (r : Raw) (x : LogSync) (incoming suffix : List ℕ) : Type 0 where
  pub ready : Ready r
  pub whole : whole_in suffix ≡ true
  pub lent : is_none x.decided_snapshot ≡ false → Holds snapshot_words x.keys incoming
  pub fine : part_formed (part_by x incoming suffix) ≡ true
