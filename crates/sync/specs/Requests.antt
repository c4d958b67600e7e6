-- A sync's request, read off the arguments: its log part, if it has one, and whether the lent words are in form.
use Rattle.std.specs.Prelude.{ℕ, Bool, true, false, ◌&&◌, ◌||◌, List, eqb, length, Option as Optional, Some, None}
use Rattle.std.specs.Prelude.{is_none, is_some}
use Rattle.std.proofs.Math.Option.{Option, none, some}
use Rattle.entry.specs.Limits.{snapshot_words}
use Rattle.entry.specs.Change.{Change, entries_formed, entries_of, entries_in, whole_in}
use Rattle.entry.specs.Sign.{sign_formed}
use Rattle.snapshot.specs.Calls.{snapshot_formed}
use Rattle.model.specs.Log.{if_given}
use Rattle.model.specs.Diff.{Given, plain, complete, delta}
use Rattle.model.specs.Sync.{Part, PartNumbers}
use Rattle.internal_storage.specs.Replies.{sign_is}
use Rattle.sync.specs.declared.LogSync.{LogSync}
use Rattle.sync.specs.declared.SnapshotType.{SnapshotType}
use Rattle.sync.specs.declared.SnapshotType.TheVariants.{Complete, Delta}

abbrev pub given_by : Optional SnapshotType → List Change → Given
given_by None t = plain
given_by (Some Complete) t = complete t
given_by (Some Delta) t = delta t

abbrev pub delta_by : Optional SnapshotType → Bool
delta_by None = false
delta_by (Some Complete) = false
delta_by (Some Delta) = true

-- the log part, where there is one
abbrev pub part_by : LogSync → List ℕ → List ℕ → Part
part_by x incoming suffix = record {
  idx = x.sync_idx.0;
  snapshot = given_by x.decided_snapshot (entries_of x.keys incoming);
  suffix = entries_in suffix;
  stop = sign_is x.stopsign;
}

abbrev pub part_of : Optional LogSync → List ℕ → List ℕ → Option Part
part_of None incoming suffix = none
part_of (Some x) incoming suffix = some (part_by x incoming suffix)

-- what the refusals that look at numbers see of it, with n entries in the suffix
abbrev pub numbers_by : LogSync → ℕ → PartNumbers
numbers_by x n = record {
  idx = x.sync_idx.0;
  plain = is_none x.decided_snapshot;
  count = n;
  stop = is_some x.stopsign;
}

-- a snapshot slice of its length and an entry slice of whole entries, lent or not: else 11, as document 01 lists; and a
-- lent snapshot in form, unused words too
abbrev pub snapshot_whole : Optional LogSync → List ℕ → Bool
snapshot_whole None incoming = true
snapshot_whole (Some x) incoming = is_none x.decided_snapshot || snapshot_formed x.keys incoming

unfoldable pub lent_whole : Optional LogSync → List ℕ → List ℕ → Bool
lent_whole x incoming suffix =
    eqb (length incoming) snapshot_words && (whole_in suffix && snapshot_whole x incoming)

-- the same with the entries and the stop-sign: nothing of what is lent is 11
abbrev pub rest_formed : Optional LogSync → List ℕ → Bool
rest_formed None suffix = true
rest_formed (Some x) suffix = entries_formed (entries_in suffix) && if_given sign_formed (sign_is x.stopsign)

unfoldable pub request_formed : Optional LogSync → List ℕ → List ℕ → Bool
request_formed x incoming suffix = lent_whole x incoming suffix && rest_formed x suffix
