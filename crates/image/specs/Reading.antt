-- Which bytes are an image, and of which state.
use Rattle.std.specs.Prelude.{ℕ, suc, ◌+◌, ◌*◌, Bool, true, false, ◌&&◌, ◌||◌, not, List, [], ◌∷◌, ◌++◌, ltb, leb, eqb, length, get_or, take, drop, replicate, if◌then◌else◌}
use Rattle.std.proofs.Math.Option.{Option, none, some}
use Rattle.words.specs.Words.{laid}
use Rattle.records.specs.Big.{value}
use Rattle.records.specs.Sealed.{Field, field, numbers, unpacked, is_sealed}
use Rattle.entry.specs.Limits.{key_room, most_nodes, most_metadata}
use Rattle.entry.specs.Change.{Change, change_formed, change_code}
use Rattle.entry.specs.Sign.{sign_formed}
use Rattle.entry.specs.declared.Ballot.{Ballot}
use Rattle.entry.specs.declared.StopSign.{StopSign}
use Rattle.model.specs.Numbers.{Numbers, accepted_of, numbers_formed}
use Rattle.model.specs.Log.{Log}
use Rattle.image.specs.Layout.{key_mark, entry_mark, stop_mark, bit_held, head_size, head_widths, change_widths}
use Rattle.image.specs.Layout.{stop_widths, Rec, key_rec, entry_rec, stop_rec, rec_bytes, run_bytes}
use Rattle.image.specs.declared.Head.{Head}
use Rattle.image.specs.declared.Want.{Want}
use Rattle.image.specs.declared.Want.TheVariants.{Key, Entry, Stop}

abbrev pub nth : List Field → ℕ → ℕ
nth fs i = (get_or fs i (field 0 0)).number

-- ---- the header

abbrev pub ballot_from : List Field → ℕ → Ballot
ballot_from fs i =
    record { config_id = nth fs i; n = nth fs (i + 1); priority = nth fs (i + 2); pid = nth fs (i + 3) }

abbrev pub head_from : List Field → Head
head_from fs = record {
  snapshot = bit_held 0 (nth fs 2);
  stop = bit_held 1 (nth fs 2);
  metadata = bit_held 2 (nth fs 2);
  compacted = nth fs 3;
  decided = nth fs 4;
  accepted = nth fs 5;
  entries = nth fs 6;
  keys = nth fs 7;
  promise = ballot_from fs 8;
  round = ballot_from fs 12;
}

unfoldable pub head_at : List ℕ → Head
head_at bs = head_from (unpacked head_widths bs)

-- a state's numbers as the header has them, with no batch
abbrev pub head_numbers : Head → Numbers
head_numbers h = record {
  compacted = h.compacted;
  decided = h.decided;
  retained = h.entries;
  batched = 0;
  size = 0;
  stop = h.stop;
}

-- "header numbers or flags that no state has spoil the header"
unfoldable pub head_formed : Head → Bool
head_formed h =
    (h.stop || not h.metadata)
    && ((h.snapshot || eqb h.keys 0)
    && (leb h.keys key_room && (eqb h.accepted (accepted_of (head_numbers h)) && numbers_formed (head_numbers h))))

unfoldable pub head_sound : List ℕ → Bool
head_sound bs = is_sealed head_widths bs && (ltb (nth (unpacked head_widths bs) 2) 8 && head_formed (head_at bs))

-- ---- the records after it: which are wanted, what stands there, and whether it is sound

abbrev pub stop_wants : Bool → Bool → List Want
stop_wants stop metadata = if stop then Stop metadata ∷ [] else []

abbrev pub wants : Head → List Want
wants h = replicate h.keys Key ++ (replicate h.entries Entry ++ stop_wants h.stop h.metadata)

abbrev pub mark_of : Want → ℕ
mark_of Key = key_mark
mark_of Entry = entry_mark
mark_of (Stop m) = stop_mark

-- a stop-sign's node count and metadata length say how long it is
abbrev pub nodes_at : List ℕ → ℕ
nodes_at bs = value (take 1 (drop 6 bs))

abbrev pub metadata_at : List ℕ → ℕ
metadata_at bs = value (take 1 (drop (7 + nodes_at bs * 8) bs))

abbrev pub widths_at : Want → List ℕ → List ℕ
widths_at Key bs = change_widths
widths_at Entry bs = change_widths
widths_at (Stop m) bs = stop_widths (nodes_at bs) (metadata_at bs)

abbrev pub change_from : List Field → Change
change_from fs = change_code.dec (numbers (drop 1 fs))

abbrev pub sign_from : Bool → ℕ → ℕ → List Field → StopSign
sign_from m n l fs = record {
  config_id = nth fs 1;
  node_count = n;
  nodes = laid most_nodes (numbers (take n (drop 3 fs)));
  metadata_held = m;
  metadata_len = l;
  metadata = laid most_metadata (numbers (drop (suc n) (drop 3 fs)));
}

abbrev pub sign_at : Bool → List ℕ → StopSign
sign_at m bs =
    sign_from m (nodes_at bs) (metadata_at bs) (unpacked (stop_widths (nodes_at bs) (metadata_at bs)) bs)

abbrev pub rec_at : Want → List ℕ → Rec
rec_at Key bs = key_rec (change_from (unpacked change_widths bs))
rec_at Entry bs = entry_rec (change_from (unpacked change_widths bs))
rec_at (Stop m) bs = stop_rec (sign_at m bs)

-- "a key out of order spoils its record": a key is at least the floor, and the next floor is one above it
abbrev pub floor_after : ℕ → Rec → ℕ
floor_after f (key_rec c) = suc c.key
floor_after f (entry_rec c) = f
floor_after f (stop_rec g) = f

abbrev pub iff : Bool → Bool → Bool
iff true b = b
iff false b = not b

abbrev pub rec_formed : ℕ → Want → Rec → Bool
rec_formed f Key (key_rec c) = leb f c.key && change_formed c
rec_formed f Key (entry_rec c) = false
rec_formed f Key (stop_rec g) = false
rec_formed f Entry (key_rec c) = false
rec_formed f Entry (entry_rec c) = change_formed c
rec_formed f Entry (stop_rec g) = false
rec_formed f (Stop m) (key_rec c) = false
rec_formed f (Stop m) (entry_rec c) = false
rec_formed f (Stop m) (stop_rec g) = iff m g.metadata_held && sign_formed g

unfoldable pub sound_at : ℕ → Want → List ℕ → Bool
sound_at f w bs = is_sealed (widths_at w bs) bs && (eqb (value (take 2 bs)) (mark_of w) && rec_formed f w (rec_at w bs))

-- the leading sound records
unfoldable pub sound_run : ℕ → List Want → List ℕ → List Rec
sound_run f [] bs = []
sound_run f (w ∷ ws) bs =
    if sound_at f w bs
    then rec_at w bs ∷ sound_run (floor_after f (rec_at w bs)) ws (drop (length (rec_bytes (rec_at w bs))) bs)
    else []

-- those behind a header; where they end, "the offset of the first bad record or leftover byte", if there is one; and
-- whether there is none
abbrev pub run_of : Head → List ℕ → List Rec
run_of h bs = sound_run 0 (wants h) (drop head_size bs)

unfoldable pub run_end : Head → List ℕ → ℕ
run_end h bs = head_size + length (run_bytes (run_of h bs))

unfoldable pub whole : Head → List ℕ → Bool
whole h bs = eqb (length (run_of h bs)) (length (wants h)) && eqb (run_end h bs) (length bs)

-- ---- the state

abbrev pub keys_in : List Rec → List Change
keys_in [] = []
keys_in (key_rec c ∷ rs) = c ∷ keys_in rs
keys_in (entry_rec c ∷ rs) = keys_in rs
keys_in (stop_rec g ∷ rs) = keys_in rs

abbrev pub entries_in : List Rec → List Change
entries_in [] = []
entries_in (key_rec c ∷ rs) = entries_in rs
entries_in (entry_rec c ∷ rs) = c ∷ entries_in rs
entries_in (stop_rec g ∷ rs) = entries_in rs

abbrev pub sign_in : List Rec → Option StopSign
sign_in [] = none
sign_in (key_rec c ∷ rs) = sign_in rs
sign_in (entry_rec c ∷ rs) = sign_in rs
sign_in (stop_rec g ∷ rs) = some g

abbrev pub state_from : ℕ → Head → List Rec → Log
state_from size h rs = record {
  run = record {
    compacted = h.compacted;
    retained = entries_in rs;
    held = if h.snapshot then some (keys_in rs) else none;
  };
  tail = record { batched = []; size = size; sign = sign_in rs };
  marks = record { decided = h.decided; promise = h.promise; round = h.round };
}
