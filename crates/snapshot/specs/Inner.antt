-- What the inner functions say: a search among ascending keys, and a fold in so many words.
use Rattle.std.specs.Prelude.{ℕ, suc, ◌*◌, ◌≤◌, ◌≡◌, Bool, true, false, List, [], ◌∷◌, ltb, leb, eqb, length, if◌then◌else◌}
use Rattle.std.specs.Prelude.{Result, Ok, Err}
use Rattle.entry.specs.Limits.{width, snapshot_words}
use Rattle.entry.specs.Change.{Change, entries_formed, entries_of, stored, Laid}
use Rattle.entry.specs.Guards.{first}
use Rattle.entry.specs.declared.Refusal.{Refusal}
use Rattle.entry.specs.declared.Refusal.TheVariants.{TooManyKeys}
use Rattle.snapshot.specs.Folds.{rising, fold_onto}
use Rattle.snapshot.specs.Calls.{Outcome, written_by, fold_guards}

-- how many keys are below k before the first that is not; whether that one is k
unfoldable pub rank : List Change → ℕ → ℕ
rank [] k = 0
rank (e ∷ es) k = if ltb e.key k then suc (rank es k) else 0

unfoldable pub here : List Change → ℕ → Bool
here [] k = false
here (e ∷ es) k = if ltb e.key k then here es k else eqb e.key k

-- where a key stands, or else before which entry it would
unfoldable pub spot_of : List Change → ℕ → Result ℕ ℕ
spot_of es k = if here es k then Ok (rank es k) else Err (rank es k)

-- entries in so many words: their count, where they fit
unfoldable pub folded_in : ℕ → List Change → Result ℕ Refusal
folded_in words es = if leb (length es * width) words then Ok (length es) else Err TooManyKeys

-- so many words that hold n entries in form with ascending keys, and zeros after them
pub record Holds (words n : ℕ) (ws : List ℕ) : Type 0 where
  pub laid : Laid words n ws
  pub rises : rising (entries_of n ws) ≡ true

-- n entries in form, whatever stands after them
pub record Shows (n : ℕ) (ws : List ℕ) : Type 0 where
  pub inside : n * width ≤ length ws
  pub sound : entries_formed (entries_of n ws) ≡ true

-- a fold in scratch words: its reply, and the words where the entries fit
pub record FoldIs (words : ℕ) (es : List Change) (r : Result ℕ Refusal) (exit : List ℕ) : Type 0 where
  pub reply : r ≡ folded_in words es
  pub words_are : length es * width ≤ words → exit ≡ stored words es

-- what a fold onto a snapshot, to be written to an output slice, needs of the three
pub record Aside (kept : ℕ) (base : List ℕ) (n : ℕ) (entries out : List ℕ) : Type 0 where
  pub base_holds : Holds snapshot_words kept base
  pub entries_show : Shows n entries
  pub room : length out ≡ snapshot_words

-- what comes of it: refusal 8, or the fold written out
abbrev pub fold_written : List Change → List ℕ → Outcome
fold_written s out = written_by (first (fold_guards s)) s out

abbrev pub folded_out : ℕ → List ℕ → ℕ → List ℕ → List ℕ → Outcome
folded_out kept base n entries out = fold_written (fold_onto (entries_of kept base) (entries_of n entries)) out
