-- Entries as words, at any width: how many words an entry has, what they are, which entry some words are, and which
-- entries have words.
use Rattle.std.specs.Prelude.{ℕ, zero, suc, ◌*◌, ◌≡◌, Bool, true, List, [], ◌∷◌, ◌++◌, length, take, drop}
use Rattle.words.specs.Words.{laid, spliced}

pub record Code (E : Type 0) : Type 0 where
  pub width : ℕ
  pub enc : E → List ℕ
  pub dec : List ℕ → E
  pub sound : E → Bool

-- every entry has `width` words, a sound one is known by them, and all words are some entry's
pub record Lawful (E : Type 0) (c : Code E) : Type 0 where
  pub long : (e : E) → length (c.enc e) ≡ c.width
  pub back : (e : E) → c.sound e ≡ true → c.dec (c.enc e) ≡ e
  pub forth : (ws : List ℕ) → length ws ≡ c.width → c.enc (c.dec ws) ≡ ws

-- the words of some entries, one entry's after the other's
unfoldable pub words_of : {E : Type 0} → Code E → List E → List ℕ
words_of c [] = []
words_of c (e ∷ es) = c.enc e ++ words_of c es

-- the n entries at the front of some words
unfoldable pub entries_at : {E : Type 0} → Code E → ℕ → List ℕ → List E
entries_at c zero ws = []
entries_at c (suc n) ws = c.dec (take c.width ws) ∷ entries_at c n (drop c.width ws)

-- a slice of n words that holds some entries, and zeros after them
abbrev pub laid_out : {E : Type 0} → Code E → ℕ → List E → List ℕ
laid_out c n es = laid n (words_of c es)

-- a slice with the words of some entries over its front; those after them stay
abbrev pub over : {E : Type 0} → Code E → List E → List ℕ → List ℕ
over c es ws = spliced 0 (length es * c.width) (words_of c es) ws
