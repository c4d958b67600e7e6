-- What each record of an image has in it, field by field: "Each record starts with a two-byte mark: C7 48 header,
-- C7 4B key, C7 45 entry, C7 53 stop-sign".
use Rattle.std.specs.Prelude.{ℕ, ◌+◌, ◌*◌, ◌/◌, ◌%◌, ◌^◌, Bool, List, [], ◌∷◌, ◌++◌, map, eqb, take, replicate, if◌then◌else◌}
use Rattle.records.specs.Sealed.{Field, field, sealed}
use Rattle.entry.specs.Limits.{width, key_room, entry_room, most_nodes, most_metadata}
use Rattle.entry.specs.Change.{Change, change_code}
use Rattle.entry.specs.declared.Ballot.{Ballot}
use Rattle.entry.specs.declared.StopSign.{StopSign}
use Rattle.image.specs.declared.Head.{Head}

abbrev pub head_mark : ℕ
head_mark = 0xc748

abbrev pub key_mark : ℕ
key_mark = 0xc74b

abbrev pub entry_mark : ℕ
entry_mark = 0xc745

abbrev pub stop_mark : ℕ
stop_mark = 0xc753

-- "a flag byte (bit 0 snapshot held, bit 1 stop-sign held, bit 2 metadata present, the rest zero)"
abbrev pub flag_byte : Bool → Bool → Bool → ℕ
flag_byte a b c = (if a then 1 else 0) + (if b then 2 else 0) + (if c then 4 else 0)

abbrev pub flags_of : Head → ℕ
flags_of h = flag_byte h.snapshot h.stop h.metadata

-- bit k of the flag byte
abbrev pub bit_held : ℕ → ℕ → Bool
bit_held k v = eqb (v / 2 ^ k % 2) 1

-- "config_id, n, priority of 32, pid of 64"
abbrev pub ballot_fields : Ballot → List Field
ballot_fields b = field 4 b.config_id ∷ field 4 b.n ∷ field 4 b.priority ∷ field 8 b.pid ∷ []

-- "format 1 (16 bits), a flag byte …, compacted, decided, accepted (32 each), entry and key counts (16 each), promise
-- and accepted round"
abbrev pub head_fields : Head → List Field
head_fields h =
    field 2 head_mark
    ∷ field 2 1
    ∷ field 1 (flags_of h)
    ∷ field 4 h.compacted
    ∷ field 4 h.decided
    ∷ field 4 h.accepted
    ∷ field 2 h.entries
    ∷ field 2 h.keys
    ∷ (ballot_fields h.promise ++ ballot_fields h.round)

-- the records after it
pub data Rec : Type 0 where
  key_rec entry_rec : Change → Rec
  stop_rec : StopSign → Rec

-- "Key and entry records are two 64-bit words. Stop-sign: configuration id (32), node count (8), nodes (64 each),
-- metadata length (8), bytes"
abbrev pub change_fields : ℕ → Change → List Field
change_fields mark c = field 2 mark ∷ map (field 8) (change_code.enc c)

abbrev pub stop_fields : StopSign → List Field
stop_fields g =
    field 2 stop_mark
    ∷ field 4 g.config_id
    ∷ field 1 g.node_count
    ∷ (map (field 8) (take g.node_count g.nodes)
    ++ (field 1 g.metadata_len ∷ map (field 1) (take g.metadata_len g.metadata)))

abbrev pub fields_of : Rec → List Field
fields_of (key_rec c) = change_fields key_mark c
fields_of (entry_rec c) = change_fields entry_mark c
fields_of (stop_rec g) = stop_fields g

abbrev pub rec_bytes : Rec → List ℕ
rec_bytes r = sealed (fields_of r)

unfoldable pub run_bytes : List Rec → List ℕ
run_bytes [] = []
run_bytes (r ∷ rs) = rec_bytes r ++ run_bytes rs

-- how many bytes the fields of a header, of a key or an entry, and of a stop-sign have; with its sum a record has two
-- more
abbrev pub head_widths : List ℕ
head_widths = 2 ∷ 2 ∷ 1 ∷ 4 ∷ 4 ∷ 4 ∷ 2 ∷ 2 ∷ 4 ∷ 4 ∷ 4 ∷ 8 ∷ 4 ∷ 4 ∷ 4 ∷ 8 ∷ []

abbrev pub change_widths : List ℕ
change_widths = 2 ∷ replicate width 8

abbrev pub stop_widths : ℕ → ℕ → List ℕ
stop_widths n l = 2 ∷ 4 ∷ 1 ∷ (replicate n 8 ++ (1 ∷ replicate l 1))

abbrev pub head_size : ℕ
head_size = 63

abbrev pub change_size : ℕ
change_size = 20

abbrev pub stop_size : ℕ → ℕ → ℕ
stop_size n l = 10 + n * 8 + l

-- the largest image
abbrev pub image_room : ℕ
image_room = head_size + key_room * change_size + entry_room * change_size + stop_size most_nodes most_metadata
