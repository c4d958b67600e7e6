-- A reply on a key, and the words that it is: what is said of the key, or nothing, which is unknown. Nothing but this
-- crate says how many words there are, and what each of them means.
use Rattle.std.specs.Prelude.{ℕ, ◌*◌, ◌/◌, Bool, true, List, [], ◌∷◌, leb, eqb, length, get_or, take, drop, if◌then◌else◌}
use Rattle.std.specs.Prelude.{Option as Optional, Some, None}
use Rattle.std.proofs.Math.Option.{Option, none, some}
use Rattle.words.specs.Coded.{Code}
use Rattle.entry.specs.Limits.{reply_width, unknown_word}
use Rattle.entry.specs.declared.Said.{Said as CodeSaid}
use Rattle.entry.specs.Change.{Said, said_is, said_formed, said_of, word_of}

-- what is known of a key: what an entry says of it, or nothing
abbrev pub known_is : Optional CodeSaid → Option Said
known_is (Some s) = some (said_is s)
known_is None = none

abbrev pub reply_formed : Option Said → Bool
reply_formed none = true
reply_formed (some s) = said_formed s

-- an entry's word for what is said, and a word of its own for unknown
abbrev pub reply_word : Option Said → ℕ
reply_word none = unknown_word
reply_word (some s) = word_of s

abbrev pub reply_said : ℕ → Option Said
reply_said w = if eqb w unknown_word then none else some (said_of w)

abbrev pub reply_code : Code (Option Said)
reply_code = record {
  width = reply_width;
  enc = λ (o : Option Said). reply_word o ∷ [];
  dec = λ (ws : List ℕ). reply_said (get_or ws 0 0);
  sound = reply_formed;
}

-- the i-th reply of some words; unknown where they have not so many
unfoldable pub reply_at : List ℕ → ℕ → Option Said
reply_at ws i =
    if leb (length ws / reply_width) i then none
    else reply_code.dec (take reply_width (drop (i * reply_width) ws))
