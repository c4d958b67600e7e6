-- What the program prints, as bytes: the lines of document 01's replay, and document 02's `place P`, `removed` and
-- `unknown`.
use Rattle.std.specs.Prelude.{ℕ, zero, suc, ◌+◌, ◌-◌, ◌/◌, ◌%◌, Bool, List, [], ◌∷◌, ◌++◌, ltb, if◌then◌else◌}
use Rattle.entry.specs.Change.{Said, place, removed, Change}
use Rattle.text.specs.Bytes.{bytes}
use Rattle.text.specs.Rooms.{most_digits}
use Rattle.text.specs.declared.Line.{Line}
use Rattle.text.specs.declared.Line.TheVariants.{Done, Held, Nothing, BadLine, Accepted, Refused, Run, Trimmed}
use Rattle.text.specs.declared.Line.TheVariants.{Snapshot, Stop, Place, Removed, Unknown}

-- how many digits n has, counted up to one more than fuel
abbrev pub digits_up_to : ℕ → ℕ → ℕ
digits_up_to zero n = 1
digits_up_to (suc fuel) n = if ltb n 10 then 1 else suc (digits_up_to fuel (n / 10))

-- the last k digits of n, the most significant first
abbrev pub last_digits : ℕ → ℕ → List ℕ
last_digits zero n = []
last_digits (suc k) n = last_digits k (n / 10) ++ (48 + n % 10) ∷ []

-- a 64-bit number in decimal
unfoldable pub decimal_of : ℕ → List ℕ
decimal_of n = last_digits (digits_up_to (most_digits - 1) n) n

unfoldable pub line_of : Line → List ℕ
line_of Done = bytes "ok\n"
line_of Held = bytes "held\n"
line_of Nothing = bytes "none\n"
line_of BadLine = bytes "bad line\n"
line_of (Accepted n) = bytes "accepted " ++ decimal_of n ++ bytes "\n"
line_of (Refused n) = bytes "refused " ++ decimal_of n ++ bytes "\n"
line_of (Run n) = bytes "run " ++ decimal_of n ++ bytes "\n"
line_of (Trimmed i) = bytes "trimmed " ++ decimal_of i ++ bytes "\n"
line_of (Snapshot i keys) = bytes "snapshot " ++ decimal_of i ++ bytes " " ++ decimal_of keys ++ bytes "\n"
line_of (Stop c decided) = bytes "stop " ++ decimal_of c ++ (if decided then bytes " yes\n" else bytes " no\n")
line_of (Place p) = bytes "place " ++ decimal_of p ++ bytes "\n"
line_of Removed = bytes "removed\n"
line_of Unknown = bytes "unknown\n"

-- an entry's key, and its place or `-`
abbrev pub said_text : Said → List ℕ
said_text (place p) = decimal_of p
said_text removed = bytes "-"

abbrev pub entry_text : Change → List ℕ
entry_text c = decimal_of c.key ++ bytes " " ++ said_text c.said ++ bytes "\n"

unfoldable pub entry_line : Bool → Change → List ℕ
entry_line decided c = (if decided then bytes "decided " else bytes "undecided ") ++ entry_text c

-- the lines of some entries, the first so many of which are decided
unfoldable pub entry_lines : ℕ → List Change → List ℕ
entry_lines decided [] = []
entry_lines decided (c ∷ es) = entry_line (ltb 0 decided) c ++ entry_lines (decided - 1) es
