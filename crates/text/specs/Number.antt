-- "Numbers are decimal without leading zeros; one past 64 bits .. makes a bad line."
use Rattle.std.specs.Prelude.{ℕ, ◌+◌, ◌-◌, ◌*◌, ◌^◌, Bool, false, ◌&&◌, not, List, [], ◌∷◌, ltb, leb, eqb, if◌then◌else◌}
use Rattle.std.specs.Prelude.{Option, Some, None}
use Rattle.words.specs.All.{all_of}

-- `0` to `9`
abbrev pub is_digit : ℕ → Bool
is_digit b = leb 48 b && leb b 57

-- digits, at least one, and no `0` in front of another
abbrev pub plain : List ℕ → Bool
plain [] = false
plain (b ∷ []) = is_digit b
plain (b ∷ c ∷ bs) = not (eqb b 48) && all_of is_digit (b ∷ c ∷ bs)

-- what digits mean that follow the number n, most significant first
abbrev pub value : ℕ → List ℕ → ℕ
value n [] = n
value n (b ∷ bs) = value (n * 10 + (b - 48)) bs

unfoldable pub numeral_of : List ℕ → Option ℕ
numeral_of xs = if plain xs && ltb (value 0 xs) (2 ^ 64) then Some (value 0 xs) else None
