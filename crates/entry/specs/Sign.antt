-- A stop-sign: "a 32-bit configuration id, up to seven node ids and up to 32 metadata bytes, or no metadata. At least
-- one node; unused array elements are zero." The id's 32 bits and the arrays' lengths are known by the struct's
-- types.
use Rattle.std.specs.Prelude.{ℕ, Bool, false, ◌&&◌, ◌||◌, not, List, leb, eqb, length, drop, replicate, if◌then◌else◌}
use Rattle.words.specs.Words.{all_zero}
use Rattle.entry.specs.Limits.{most_nodes, most_metadata}
use Rattle.entry.specs.declared.StopSign.{StopSign}

-- without metadata its length is zero too
unfoldable pub sign_formed : StopSign → Bool
sign_formed s =
    leb 1 s.node_count
    && (leb s.node_count most_nodes
    && (leb s.metadata_len most_metadata
    && ((s.metadata_held || eqb s.metadata_len 0)
    && (all_zero (drop s.node_count s.nodes) && all_zero (drop s.metadata_len s.metadata)))))

-- where none is held every field is zero
abbrev pub no_sign : StopSign
no_sign = record {
  config_id = 0;
  node_count = 0;
  nodes = replicate most_nodes 0;
  metadata_held = false;
  metadata_len = 0;
  metadata = replicate most_metadata 0;
}

-- the stop-sign that is kept, by whether one is held
abbrev pub sign_if : Bool → StopSign → StopSign
sign_if held g = if held then g else no_sign

-- n zeros
unfoldable pub blank : ℕ → List ℕ → Bool
blank n s = eqb (length s) n && all_zero s

unfoldable pub sign_blank : StopSign → Bool
sign_blank s =
    eqb s.config_id 0
    && (eqb s.node_count 0
    && (eqb s.metadata_len 0
    && (not s.metadata_held && (blank most_nodes s.nodes && blank most_metadata s.metadata))))
