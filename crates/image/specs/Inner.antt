-- What the inner functions say and require.
use Rattle.std.specs.Prelude.{ℕ, zero, suc, ◌+◌, ◌≤◌, ◌≡◌, Bool, true, ◌&&◌, List, [], ◌∷◌, ◌++◌, eqb, length, take, drop, if◌then◌else◌}
use Rattle.std.specs.Prelude.{Option, Some, None, Result, Ok, Err}
use Rattle.std.specs.Bool.{then_some}
use Rattle.records.specs.Big.{value}
use Rattle.records.specs.Sealed.{unpacked, sealed, is_sealed}
use Rattle.entry.specs.Limits.{largest_batch, log_words, snapshot_words}
use Rattle.entry.specs.Change.{Change, change_formed}
use Rattle.entry.specs.Sign.{sign_formed}
use Rattle.entry.specs.Guards.{passes, first}
use Rattle.entry.specs.declared.Ballot.{Ballot}
use Rattle.entry.specs.declared.StopSign.{StopSign}
use Rattle.model.specs.Numbers.{accepted_of}
use Rattle.state_cache.specs.State.{numbers_in}
use Rattle.state_cache.specs.declared.IndexRecord.{IndexRecord}
use Rattle.image.specs.Layout.{change_fields, change_widths, change_size, stop_fields, stop_size, rec_bytes}
use Rattle.image.specs.Layout.{Rec, key_rec, entry_rec, stop_rec}
use Rattle.image.specs.Reading.{change_from, rec_at, sound_at, run_end, whole}
use Rattle.image.specs.Calls.{image_guards}
use Rattle.image.specs.declared.Head.{Head}
use Rattle.image.specs.declared.Want.{Want}
use Rattle.image.specs.declared.walk.Step.{Step}

-- ---- the header of an index record; a ballot at an offset; and the record that a header and a stop-sign stand for

abbrev pub head_in : IndexRecord → Head
head_in x = record {
  snapshot = x.snapshot_held;
  stop = x.stop_held;
  metadata = x.stop.metadata_held;
  compacted = x.compacted.0;
  decided = x.decided.0;
  accepted = accepted_of (numbers_in x);
  entries = x.retained;
  keys = x.keys;
  promise = x.promise;
  round = x.accepted_round;
}

abbrev pub ballot_at : ℕ → List ℕ → Ballot
ballot_at at bs = record {
  config_id = value (take 4 (drop at bs));
  n = value (take 4 (drop (at + 4) bs));
  priority = value (take 4 (drop (at + 8) bs));
  pid = value (take 8 (drop (at + 12) bs));
}

abbrev pub index_from : ℕ → Head → StopSign → IndexRecord
index_from size h g = record {
  batch_size = size;
  retained = h.entries;
  batched = 0;
  compacted = record { 0 = h.compacted };
  decided = record { 0 = h.decided };
  promise = h.promise;
  accepted_round = h.round;
  snapshot_held = h.snapshot;
  keys = h.keys;
  stop_held = h.stop;
  stop = g;
}

-- ---- one record

-- a key may be any, or must be above one: what is at least the floor
abbrev pub floor_of : Option ℕ → ℕ
floor_of None = 0
floor_of (Some before) = suc before

-- the key that the next must be above, after a record
abbrev pub above_after : Option ℕ → Rec → Option ℕ
above_after above (key_rec c) = Some c.key
above_after above (entry_rec c) = above
above_after above (stop_rec g) = above

-- how long the record at the front of some bytes is, if it is sound; and with it the key that the next must be above
unfoldable pub size_at : ℕ → Want → List ℕ → Option ℕ
size_at f w bs = then_some (sound_at f w bs) (length (rec_bytes (rec_at w bs)))

unfoldable pub step_at : Option ℕ → Want → List ℕ → Option Step
step_at above w bs =
    then_some (sound_at (floor_of above) w bs)
    (record { size = length (rec_bytes (rec_at w bs)); above = above_after above (rec_at w bs) })

-- a key's or an entry's, its order left out; and its key
abbrev pub change_sound : ℕ → List ℕ → Bool
change_sound mark bs =
    is_sealed change_widths bs
    && (eqb (value (take 2 bs)) mark && change_formed (change_from (unpacked change_widths bs)))

unfoldable pub key_at : ℕ → List ℕ → Option ℕ
key_at mark bs = then_some (change_sound mark bs) (change_from (unpacked change_widths bs)).key

-- ---- all of them: they are what is wanted and all there is, or they end somewhere

unfoldable pub walked : Head → List ℕ → Result (Unit {0}) ℕ
walked h bs = if whole h bs then Ok tt else Err (run_end h bs)

-- ---- several of one kind: their bytes; and what n of them say, one after the other, whether or not they are sound,
-- which is what is loaded once all are known to be

unfoldable pub changes_bytes : ℕ → List Change → List ℕ
changes_bytes mark [] = []
changes_bytes mark (c ∷ cs) = sealed (change_fields mark c) ++ changes_bytes mark cs

unfoldable pub changes_at : ℕ → List ℕ → List Change
changes_at zero bs = []
changes_at (suc n) bs = change_from (unpacked change_widths bs) ∷ changes_at n (drop change_size bs)

-- a stop-sign's bytes, where one is held
abbrev pub SignFormed : StopSign → Type 0
SignFormed g = sign_formed g ≡ true

abbrev pub sign_size : Option StopSign → ℕ
sign_size None = 0
sign_size (Some g) = stop_size g.node_count g.metadata_len

abbrev pub sign_bytes : Option StopSign → List ℕ
sign_bytes None = []
sign_bytes (Some g) = sealed (stop_fields g)

-- ---- what is judged before it is loaded

pub record Loadable (size : ℕ) (bs log snapshot : List ℕ) : Type 0 where
  pub sized : size ≤ largest_batch
  pub log_long : length log ≡ log_words
  pub snapshot_long : length snapshot ≡ snapshot_words
  pub sound : first (image_guards bs) ≡ passes
