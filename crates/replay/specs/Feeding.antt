-- Lines that come in parts: what a line means as its buffer keeps it, and what is known between one part of the input
-- and the next.
use Rattle.std.specs.Prelude.{ℕ, ◌+◌, ◌-◌, ◌*◌, ◌≤◌, ◌≡◌, List, ◌++◌}
use Rattle.std.proofs.Math.Option.{Option, none, some}
use Rattle.entry.specs.Limits.{entry_room, log_words}
use Rattle.text.specs.Rooms.{input_line, output_line}
use Rattle.text.specs.Parse.{parse_of}
use Rattle.text.specs.declared.Command.{Command}
use Rattle.text.specs.declared.Command.TheVariants.{BadLine}
use Rattle.replay.specs.Answering.{Printout, printout}

-- the bytes that have come (`come` in text); a line longer than the buffer is a bad line
abbrev pub meaning : Option (List ℕ) → Command
meaning none = BadLine
meaning (some bs) = parse_of bs

-- the most bytes that an answer may have: a line for each entry, the count before them, a marker and a stop-sign;
-- src/main.rt has this and what follows from it as constants
abbrev pub answer_room : ℕ
answer_room = (entry_room + 3) * output_line

-- so many bytes of answers wait to be written
abbrev pub out_room : ℕ
out_room = 2 * answer_room

-- where more of them wait than this, one more answer might not fit
abbrev pub last_start : ℕ
last_start = out_room - answer_room

-- some bytes before what is printed
abbrev pub after : List ℕ → Printout → Printout
after bs t = printout (bs ++ t.text) t.after

-- what is known between one part of the input and the next: the line so far is in its buffer, and the answers that
-- wait in theirs
pub record Fed (len used line log out : ℕ) : Type 0 where
  pub inside : len ≤ line
  pub buffer : line ≡ input_line
  pub waiting : used ≤ out_room
  pub room : out ≡ out_room
  pub words : log ≡ log_words
