-- The names of files, and what a load answers.
use Rattle.std.specs.Prelude.{ℕ, List, [], ◌∷◌, Result, IfOk, codes}
use Rattle.words.specs.Words.{IsPrefixLen}
use Rattle.keep.specs.declared.LoadError.{LoadError}
use Rattle.keep.specs.declared.LoadError.TheVariants.{Missing, Unread}

-- `/`
abbrev pub slash : ℕ
slash = 47

-- what a temporary file's name has after the path: `.XXXXXX`
abbrev pub tail : List ℕ
tail = 46 ∷ 88 ∷ 88 ∷ 88 ∷ 88 ∷ 88 ∷ 88 ∷ []

-- of the 4,096 bytes of a path, its zero and that tail are not the caller's
abbrev pub longest : ℕ
longest = 4088

-- what a person reads where a load fails
abbrev pub load_text : LoadError → List ℕ
load_text Missing = codes "no such file"
load_text Unread = codes "the file cannot be read"

-- how many bytes were read: no more than the buffer has
abbrev pub Holds : {E : Type 0} → Result ℕ E → List ℕ → Type 0
Holds r buf = IfOk r (λ n. IsPrefixLen n buf)
