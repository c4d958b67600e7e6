-- A text as bytes: for texts of ASCII alone, whose characters are their bytes. And where a byte stands first.
use Rattle.std.specs.Prelude.{ℕ, suc, List, [], ◌∷◌, eqb, if◌then◌else◌}
use Prim.Native.Char.{code}
use Prim.Native.String.{String, [] as none, ◌∷◌ as ◌then◌}

abbrev pub bytes : String → List ℕ
bytes none = []
bytes (c then s) = code c ∷ bytes s

-- how many bytes stand before the first b, all of them where there is none
abbrev pub gap_of : ℕ → List ℕ → ℕ
gap_of b [] = 0
gap_of b (x ∷ xs) = if eqb x b then 0 else suc (gap_of b xs)
