-- How many bytes a number and a line may have. src/lib.rt has the same as constants.
use Rattle.std.specs.Prelude.{ℕ, ◌+◌, ◌*◌, length}
use Rattle.text.specs.Bytes.{bytes}

-- the digits of a 64-bit number
abbrev pub most_digits : ℕ
most_digits = 20

-- the longest line of input that is no bad line has two numbers, each after a space
abbrev pub input_line : ℕ
input_line = length (bytes "read") + 2 * (1 + most_digits)

-- the longest line of output is an undecided entry's: two numbers, with a space after the first and a line feed after
-- the second
abbrev pub output_line : ℕ
output_line = length (bytes "undecided ") + 2 * (most_digits + 1)
