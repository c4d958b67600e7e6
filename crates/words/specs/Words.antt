-- Words in a lent slice: laid out at its front with zeros after them, and with some of them replaced; the same of any
-- elements and their blank.
use Rattle.std.specs.Prelude.{◌≡◌, ℕ, ◌+◌, ◌-◌, ◌≤◌, List, ◌++◌, Bool, eqb, length, take, drop, replicate}
use Rattle.words.specs.All.{all_of}

-- xs, and blanks up to n elements
abbrev pub padded : {A : Type 0} → A → ℕ → List A → List A
padded blank n xs = xs ++ replicate (n - length xs) blank

-- ws, and zeros up to n words
unfoldable pub laid : ℕ → List ℕ → List ℕ
laid n ws = padded 0 n ws

-- ws with the `cut` elements from `at` on replaced by `new`
abbrev pub spliced : {A : Type 0} → ℕ → ℕ → List A → List A → List A
spliced at cut new ws = take at ws ++ (new ++ drop (at + cut) ws)

-- whether all of ws is zeros
abbrev pub all_zero : List ℕ → Bool
all_zero ws = all_of (λ (w : ℕ). eqb w 0) ws

-- `&xs[..n]` is in bounds and has n elements. The second part follows from the first, and spares a caller's
-- `&buf[..n]` a proof
abbrev pub IsPrefixLen : ℕ → List ℕ → Type 0
IsPrefixLen n xs = (n ≤ length xs) × (n ≡ length (take n xs))
