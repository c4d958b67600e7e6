-- What the inner functions of this crate and of those above say and require.
use Rattle.std.specs.Prelude.{ℕ, ◌+◌, ◌≤◌, ◌≡◌, Bool, true, ◌&&◌, not, leb, ltb}
use Rattle.entry.specs.Limits.{entry_room, log_words, snapshot_words, last_index}
use Rattle.entry.specs.Change.{Laid}
use Rattle.entry.specs.declared.Ballot.{Ballot}
use Rattle.entry.specs.declared.LogIndex.{LogIndex}
use Rattle.entry.specs.declared.StopSign.{StopSign}
use Rattle.snapshot.specs.Inner.{Holds}
use Rattle.model.specs.Numbers.{Numbers}
use Rattle.model.specs.Inner.{Sound}
use Rattle.state_cache.specs.State.{Raw, numbers_in, formed}
use Rattle.state_cache.specs.declared.IndexRecord.{IndexRecord}

-- the bounds within which the sums of the numbers fit a word, as a test and as facts
unfoldable pub sizes_formed : Numbers → Bool
sizes_formed n = leb n.retained entry_room && (leb n.batched entry_room && leb n.compacted last_index)

pub record Small (n : Numbers) : Type 0 where
  pub few : n.retained ≤ entry_room
  pub waiting : n.batched ≤ entry_room
  pub low : n.compacted ≤ last_index

-- whether the log has a hole, by its record
abbrev pub hole_in : IndexRecord → Bool
hole_in x = ltb 0 x.compacted.0 && not x.snapshot_held

-- what is known of a well-formed state, each fact with its name

pub record Ready (r : Raw) : Type 0 where
  pub okay : formed r ≡ true
  pub numbers : Sound (numbers_in r.index)
  pub log : Laid log_words (r.index.retained + r.index.batched) r.log
  pub snapshot : Holds snapshot_words r.index.keys r.snapshot

-- an index record with some of its fields set
abbrev pub with_entries : ℕ → ℕ → IndexRecord → IndexRecord
with_entries kept waiting x = record {
  batch_size = x.batch_size;
  retained = kept;
  batched = waiting;
  compacted = x.compacted;
  decided = x.decided;
  promise = x.promise;
  accepted_round = x.accepted_round;
  snapshot_held = x.snapshot_held;
  keys = x.keys;
  stop_held = x.stop_held;
  stop = x.stop;
}

abbrev pub with_stop : Bool → StopSign → IndexRecord → IndexRecord
with_stop held sign x = record {
  batch_size = x.batch_size;
  retained = x.retained;
  batched = x.batched;
  compacted = x.compacted;
  decided = x.decided;
  promise = x.promise;
  accepted_round = x.accepted_round;
  snapshot_held = x.snapshot_held;
  keys = x.keys;
  stop_held = held;
  stop = sign;
}

abbrev pub with_decided : LogIndex → IndexRecord → IndexRecord
with_decided i x = record {
  batch_size = x.batch_size;
  retained = x.retained;
  batched = x.batched;
  compacted = x.compacted;
  decided = i;
  promise = x.promise;
  accepted_round = x.accepted_round;
  snapshot_held = x.snapshot_held;
  keys = x.keys;
  stop_held = x.stop_held;
  stop = x.stop;
}

abbrev pub with_promise : Ballot → IndexRecord → IndexRecord
with_promise b x = record {
  batch_size = x.batch_size;
  retained = x.retained;
  batched = x.batched;
  compacted = x.compacted;
  decided = x.decided;
  promise = b;
  accepted_round = x.accepted_round;
  snapshot_held = x.snapshot_held;
  keys = x.keys;
  stop_held = x.stop_held;
  stop = x.stop;
}

abbrev pub with_run : LogIndex → ℕ → Bool → ℕ → IndexRecord → IndexRecord
with_run start kept held count x = record {
  batch_size = x.batch_size;
  retained = kept;
  batched = x.batched;
  compacted = start;
  decided = x.decided;
  promise = x.promise;
  accepted_round = x.accepted_round;
  snapshot_held = held;
  keys = count;
  stop_held = x.stop_held;
  stop = x.stop;
}
