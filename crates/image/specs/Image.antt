-- The image of a state. "Order: header, keys, entries, stop-sign. Batched entries aren't written".
use Rattle.std.specs.Prelude.{ℕ, Bool, false, List, [], ◌∷◌, ◌++◌, map, length}
use Rattle.std.proofs.Math.Option.{Option, none, some}
use Rattle.records.specs.Sealed.{sealed}
use Rattle.entry.specs.declared.StopSign.{StopSign}
use Rattle.model.specs.Numbers.{accepted_of}
use Rattle.model.specs.Log.{Log, given, numbers_of, or_empty}
use Rattle.image.specs.Layout.{head_fields, Rec, key_rec, entry_rec, stop_rec, run_bytes}
use Rattle.image.specs.declared.Head.{Head}

abbrev pub metadata_held : Option StopSign → Bool
metadata_held none = false
metadata_held (some g) = g.metadata_held

abbrev pub head_of : Log → Head
head_of s = record {
  snapshot = given s.run.held;
  stop = given s.tail.sign;
  metadata = metadata_held s.tail.sign;
  compacted = s.run.compacted;
  decided = s.marks.decided;
  accepted = accepted_of (numbers_of s);
  entries = length s.run.retained;
  keys = length (or_empty s.run.held);
  promise = s.marks.promise;
  round = s.marks.round;
}

abbrev pub stop_recs : Option StopSign → List Rec
stop_recs none = []
stop_recs (some g) = stop_rec g ∷ []

abbrev pub recs_of : Log → List Rec
recs_of s = map key_rec (or_empty s.run.held) ++ (map entry_rec s.run.retained ++ stop_recs s.tail.sign)

unfoldable pub image_of : Log → List ℕ
image_of s = sealed (head_fields (head_of s)) ++ run_bytes (recs_of s)
