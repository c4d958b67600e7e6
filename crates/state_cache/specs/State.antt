-- The state as a caller lends it: when it is well formed, the log that it stands for, and the state that stands for a
-- log.
use Rattle.std.specs.Prelude.{ℕ, ◌+◌, ◌*◌, Bool, ◌&&◌, ◌||◌, not, List, ◌++◌, eqb, length, drop, if◌then◌else◌}
use Rattle.std.proofs.Math.Option.{Option, none, some}
use Rattle.entry.specs.Limits.{width, log_words, snapshot_words}
use Rattle.entry.specs.Change.{entries_of, stored, stored_in}
use Rattle.entry.specs.Sign.{sign_formed, sign_blank, no_sign, blank}
use Rattle.entry.specs.declared.StopSign.{StopSign}
use Rattle.snapshot.specs.Calls.{snapshot_formed}
use Rattle.model.specs.Numbers.{Numbers, numbers_formed}
use Rattle.model.specs.Log.{Log, given, or_empty}
use Rattle.state_cache.specs.declared.IndexRecord.{IndexRecord}

-- the record, and the words of the log and of the snapshot
pub record Raw : Type 0 where
  pub index : IndexRecord
  pub log : List ℕ
  pub snapshot : List ℕ

abbrev pub raw : IndexRecord → List ℕ → List ℕ → Raw
raw i l s = record { index = i; log = l; snapshot = s }

abbrev pub numbers_in : IndexRecord → Numbers
numbers_in r = record {
  compacted = r.compacted.0;
  decided = r.decided.0;
  retained = r.retained;
  batched = r.batched;
  size = r.batch_size;
  stop = r.stop_held;
}

abbrev pub one_if : Bool → ℕ
one_if b = if b then 1 else 0

-- ---- well formed: the numbers, and "slice lengths, order, places and zeros"

unfoldable pub sign_held : IndexRecord → Bool
sign_held r = (r.stop_held && sign_formed r.stop) || (not r.stop_held && sign_blank r.stop)

-- no snapshot held: no key, and every word zero
unfoldable pub snapshot_held : IndexRecord → List ℕ → Bool
snapshot_held r ws =
    (r.snapshot_held && snapshot_formed r.keys ws)
    || (not r.snapshot_held && (eqb r.keys 0 && blank snapshot_words ws))

unfoldable pub formed : Raw → Bool
formed r =
    numbers_formed (numbers_in r.index)
    && (sign_held r.index
    && (stored_in log_words (r.index.retained + r.index.batched) r.log && snapshot_held r.index r.snapshot))

-- ---- the log that it stands for, and back

unfoldable pub log_of : Raw → Log
log_of r = record {
  run = record {
    compacted = r.index.compacted.0;
    retained = entries_of r.index.retained r.log;
    held = if r.index.snapshot_held then some (entries_of r.index.keys r.snapshot) else none;
  };
  tail = record {
    batched = entries_of r.index.batched (drop (r.index.retained * width) r.log);
    size = r.index.batch_size;
    sign = if r.index.stop_held then some r.index.stop else none;
  };
  marks = record {
    decided = r.index.decided.0;
    promise = r.index.promise;
    round = r.index.accepted_round;
  };
}

abbrev pub sign_or : Option StopSign → StopSign
sign_or none = no_sign
sign_or (some g) = g

unfoldable pub index_of : Log → IndexRecord
index_of s = record {
  batch_size = s.tail.size;
  retained = length s.run.retained;
  batched = length s.tail.batched;
  compacted = record { 0 = s.run.compacted };
  decided = record { 0 = s.marks.decided };
  promise = s.marks.promise;
  accepted_round = s.marks.round;
  snapshot_held = given s.run.held;
  keys = length (or_empty s.run.held);
  stop_held = given s.tail.sign;
  stop = sign_or s.tail.sign;
}

unfoldable pub raw_of : Log → Raw
raw_of s = record {
  index = index_of s;
  log = stored log_words (s.run.retained ++ s.tail.batched);
  snapshot = stored snapshot_words (or_empty s.run.held);
}
