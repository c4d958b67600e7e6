-- What the inner functions say: the entry that stands at a place among words, and the words that an entry is lent as.
use Rattle.std.specs.Prelude.{ℕ, ◌+◌, ◌*◌, ◌≡◌, true, List, [], ◌∷◌, get_or}
use Rattle.entry.specs.Limits.{width}
use Rattle.entry.specs.Change.{Change, change, change_formed, entries_formed, entries_in, whole_in}

-- the entry at i
abbrev pub change_at : List ℕ → ℕ → Change
change_at ws i = change (get_or ws (i * width) 0) (get_or ws (i * width + 1) 0)

-- one entry's words: in form exactly if it is, and then they are no other's
pub record LentAs (c : Change) (ws : List ℕ) : Type 0 where
  pub whole : whole_in ws ≡ true
  pub same_form : entries_formed (entries_in ws) ≡ change_formed c
  pub same_entry : change_formed c ≡ true → entries_in ws ≡ c ∷ []
