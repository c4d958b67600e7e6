-- What a line means: "Commands are the nine shown, with `snap` taking an index or `all`. .. Other lines print `bad
-- line`." And document 02: ""All" is now open to trimming too (`trim all`)", and the program "gains `find K`".
use Rattle.std.specs.Prelude.{ℕ, ◌^◌, Bool, true, false, ◌&&◌, List, [], ◌∷◌, ltb, eqb, if◌then◌else◌}
use Rattle.std.specs.Prelude.{Option, Some, None}
use Prim.Native.String.{String}
use Rattle.entry.specs.declared.Compaction.{Compaction}
use Rattle.entry.specs.declared.Compaction.TheVariants.{Trim, Snapshot}
use Rattle.text.specs.Bytes.{bytes}
use Rattle.text.specs.Number.{numeral_of}
use Rattle.text.specs.declared.Command.{Command}
use Rattle.text.specs.declared.Command.TheVariants.{Batch, Put, Del, Read, Flush, Decide, Compact, Stop}
use Rattle.text.specs.declared.Command.TheVariants.{Find, BadLine}

-- whether two lists of bytes are one
abbrev pub same_of : List ℕ → List ℕ → Bool
same_of [] [] = true
same_of [] (y ∷ ys) = false
same_of (x ∷ xs) [] = false
same_of (x ∷ xs) (y ∷ ys) = eqb x y && same_of xs ys

infix 40 ◌is◌
abbrev pub ◌is◌ : List ℕ → String → Bool
w is t = same_of w (bytes t)

-- a line's words stand between single spaces: beside a space at an end, and between two that meet, stands an empty word
abbrev pub onto : ℕ → List (List ℕ) → List (List ℕ)
onto b [] = (b ∷ []) ∷ []
onto b (w ∷ ws) = (b ∷ w) ∷ ws

abbrev pub words : List ℕ → List (List ℕ)
words [] = [] ∷ []
words (b ∷ bs) = if eqb b 32 then [] ∷ words bs else onto b (words bs)

-- a line of one word
unfoldable pub bare_of : List ℕ → Command
bare_of w = if w is "flush" then Flush else BadLine

-- a line of two words: "one .. past 32 after `stop`, makes a bad line"
unfoldable pub numbered_of : List ℕ → ℕ → Command
numbered_of w n =
    if w is "batch" then Batch n
    else if w is "del" then Del n
    else if w is "decide" then Decide n
    else if w is "find" then Find n
    else if w is "stop" then (if ltb n (2 ^ 32) then Stop n else BadLine)
    else BadLine

abbrev pub with_number : List ℕ → Option ℕ → Command
with_number w (Some n) = numbered_of w n
with_number w None = BadLine

abbrev pub compact_to : Compaction → Option ℕ → Command
compact_to what (Some n) = Compact what (Some (record { 0 = n }))
compact_to what None = BadLine

unfoldable pub compact_of : Compaction → List ℕ → Command
compact_of what a = if a is "all" then Compact what None else compact_to what (numeral_of a)

unfoldable pub with_one : List ℕ → List ℕ → Command
with_one w a =
    if w is "snap" then compact_of Snapshot a
    else if w is "trim" then compact_of Trim a
    else with_number w (numeral_of a)

-- a line of three words
unfoldable pub paired_of : List ℕ → ℕ → ℕ → Command
paired_of w m n =
    if w is "put" then Put m n
    else if w is "read" then Read m n
    else BadLine

abbrev pub with_numbers : List ℕ → Option ℕ → Option ℕ → Command
with_numbers w (Some m) (Some n) = paired_of w m n
with_numbers w (Some m) None = BadLine
with_numbers w None q = BadLine

abbrev pub with_two : List ℕ → List ℕ → List ℕ → Command
with_two w a b = with_numbers w (numeral_of a) (numeral_of b)

abbrev pub command_of : List (List ℕ) → Command
command_of [] = BadLine
command_of (w ∷ []) = bare_of w
command_of (w ∷ a ∷ []) = with_one w a
command_of (w ∷ a ∷ b ∷ []) = with_two w a b
command_of (w ∷ a ∷ b ∷ c ∷ ws) = BadLine

-- a line without its line end
unfoldable pub parse_of : List ℕ → Command
parse_of line = command_of (words line)
