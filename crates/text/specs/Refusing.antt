-- What is told of a refused image, as bytes: the refusal's number, the offset that 15 carries, and what it means.
use Rattle.std.specs.Prelude.{ℕ, ◌+◌, List, ◌++◌, eqb, length, if◌then◌else◌}
use Rattle.text.specs.Bytes.{bytes}
use Rattle.text.specs.Rooms.{most_digits}
use Rattle.text.specs.Answers.{decimal_of}

unfoldable pub why_text : ℕ → ℕ → List ℕ
why_text number carried =
    if eqb number 15
    then bytes " at " ++ decimal_of carried ++ bytes ": the image is damaged from here on\n"
    else if eqb number 14 then bytes ": unknown format\n" else bytes "\n"

unfoldable pub refused_text : ℕ → ℕ → List ℕ
refused_text number carried = bytes "refused " ++ decimal_of number ++ why_text number carried

-- the bytes of these
abbrev pub why_room : ℕ
why_room = length (bytes " at ") + most_digits + length (bytes ": the image is damaged from here on\n")

abbrev pub refused_room : ℕ
refused_room = length (bytes "refused ") + most_digits + why_room
