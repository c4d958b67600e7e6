-- What the code's types give of a state and the model does not say: numbers within their bits, and arrays of their
-- lengths. (Indexes and counts are bounded by the state's form.)
use Rattle.std.specs.Prelude.{ℕ, ◌^◌, ◌≡◌, Bool, true, ◌&&◌, List, ltb, eqb, length}
use Rattle.words.specs.All.{all_of}
use Rattle.records.specs.Big.{are_bytes}
use Rattle.entry.specs.Limits.{most_nodes, most_metadata}
use Rattle.entry.specs.Change.{Change, change_code}
use Rattle.entry.specs.declared.Ballot.{Ballot}
use Rattle.entry.specs.declared.StopSign.{StopSign}
use Rattle.model.specs.Log.{Log, or_empty, if_given}

abbrev pub are_words : List ℕ → Bool
are_words ws = all_of (λ (w : ℕ). ltb w (2 ^ 64)) ws

abbrev pub ballot_typed : Ballot → Bool
ballot_typed b =
    ltb b.config_id (2 ^ 32) && (ltb b.n (2 ^ 32) && (ltb b.priority (2 ^ 32) && ltb b.pid (2 ^ 64)))

abbrev pub change_typed : Change → Bool
change_typed c = are_words (change_code.enc c)

abbrev pub sign_typed : StopSign → Bool
sign_typed g =
    ltb g.config_id (2 ^ 32)
    && (eqb (length g.nodes) most_nodes
    && (are_words g.nodes && (eqb (length g.metadata) most_metadata && are_bytes g.metadata)))

pub record Typed (s : Log) : Type 0 where
  pub promise : ballot_typed s.marks.promise ≡ true
  pub round : ballot_typed s.marks.round ≡ true
  pub entries : all_of change_typed s.run.retained ≡ true
  pub keys : all_of change_typed (or_empty s.run.held) ≡ true
  pub sign : if_given sign_typed s.tail.sign ≡ true
