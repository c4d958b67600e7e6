-- The lines of an input.
use Rattle.std.specs.Prelude.{ℕ, Bool, List, [], ◌∷◌, ◌++◌, eqb, if◌then◌else◌}

-- those that have ended, without their line ends, and the bytes of the one that has not
pub record Lines : Type 0 where
  pub ended : List (List ℕ)
  pub rest : List ℕ

abbrev pub no_line : Lines
no_line = record { ended = []; rest = [] }

abbrev pub line_ended : Lines → Lines
line_ended ls = record { ended = ls.ended ++ (ls.rest ∷ []); rest = [] }

abbrev pub rest_with : List ℕ → Lines → Lines
rest_with bs ls = record { ended = ls.ended; rest = ls.rest ++ bs }

abbrev pub ended_if : Bool → Lines → Lines
ended_if ends ls = if ends then line_ended ls else ls

-- a line feed ends the line, and any other byte joins it
unfoldable pub lines_from : Lines → List ℕ → Lines
lines_from ls [] = ls
lines_from ls (b ∷ bs) = lines_from (if eqb b 10 then line_ended ls else rest_with (b ∷ []) ls) bs

abbrev pub lines_of : List ℕ → Lines
lines_of input = lines_from no_line input

-- at the end of the input the last line has ended too, where it has a byte
abbrev pub last_ended : Lines → Lines
last_ended ls = elim ls.rest [ [] ↦ ls | b ∷ bs ↦ line_ended ls ]
