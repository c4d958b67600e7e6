-- An entry: "a 64-bit key with either a block place below 2^48 or removed". Its form, and the words that it is:
-- nothing but this crate says how many there are, and what each of them means.
use Rattle.std.specs.Prelude.{ℕ, ◌*◌, ◌/◌, ◌%◌, ◌≤◌, ◌≡◌, Bool, true, ◌&&◌, List, [], ◌∷◌, ltb, leb, eqb, length, get_or, take, drop, if◌then◌else◌}
use Rattle.words.specs.All.{all_of}
use Rattle.words.specs.Words.{laid, all_zero}
use Rattle.words.specs.Coded.{Code, entries_at, laid_out}
use Rattle.entry.specs.Limits.{width, places, last_word}
use Rattle.entry.specs.declared.Said.{Said as CodeSaid}
use Rattle.entry.specs.declared.Said.TheVariants.{Place, Removed}

-- what an entry says of its key: a block place, or that it is removed
pub data Said : Type 0 where
  place : ℕ → Said
  removed : Said

-- the same as the code has it
abbrev pub said_is : CodeSaid → Said
said_is (Place p) = place p.0
said_is Removed = removed

pub record Change : Type 0 where
  pub key : ℕ
  pub said : Said

abbrev pub said_formed : Said → Bool
said_formed (place p) = ltb p places
said_formed removed = true

abbrev pub change_formed : Change → Bool
change_formed c = said_formed c.said

abbrev pub entries_formed : List Change → Bool
entries_formed es = all_of change_formed es

-- "A removed place is the word 2^64-1": what a word says, and the word that says it
abbrev pub said_of : ℕ → Said
said_of w = if eqb w last_word then removed else place w

abbrev pub word_of : Said → ℕ
word_of (place p) = p
word_of removed = last_word

abbrev pub word_formed : ℕ → Bool
word_formed w = said_formed (said_of w)

-- "two an entry": its key, and what it says
abbrev pub change : ℕ → ℕ → Change
change k w = record { key = k; said = said_of w }

abbrev pub change_code : Code Change
change_code = record {
  width = width;
  enc = λ (c : Change). c.key ∷ (word_of c.said ∷ []);
  dec = λ (ws : List ℕ). change (get_or ws 0 0) (get_or ws 1 0);
  sound = change_formed;
}

-- the first n entries of some words; all of an entry slice
abbrev pub entries_of : ℕ → List ℕ → List Change
entries_of n ws = entries_at change_code n ws

abbrev pub entries_in : List ℕ → List Change
entries_in ws = entries_of (length ws / width) ws

-- an entry slice in form: no odd word, and every entry in form
abbrev pub whole_in : List ℕ → Bool
whole_in ws = eqb (length ws % width) 0

unfoldable pub slice_formed : List ℕ → Bool
slice_formed ws = whole_in ws && entries_formed (entries_in ws)

-- a slice of n words that holds some entries; "unused words are zero"
abbrev pub stored : ℕ → List Change → List ℕ
stored n es = laid_out change_code n es

-- whether some words are such a slice, of so many words and with n entries in form
unfoldable pub stored_in : ℕ → ℕ → List ℕ → Bool
stored_in words n ws =
    eqb (length ws) words
    && (leb (n * width) words && (entries_formed (entries_of n ws) && all_zero (drop (n * width) ws)))

-- the same as facts, each with its name
pub record Laid (words n : ℕ) (ws : List ℕ) : Type 0 where
  pub long : length ws ≡ words
  pub fits : n * width ≤ words
  pub fine : entries_formed (entries_of n ws) ≡ true
  pub zeros : ws ≡ laid (length ws) (take (n * width) ws)
