-- What an input means: its lines are answered one after another, each on the state that the one before left.
use Rattle.std.specs.Prelude.{ℕ, ◌≡◌, List, [], ◌∷◌, ◌++◌}
use Rattle.std.proofs.Math.Option.{Option}
use Rattle.state_cache.specs.State.{Raw}
use Rattle.text.specs.Parse.{parse_of}
use Rattle.text.specs.Rooms.{input_line}
use Rattle.text.specs.Lines.{Lines}
use Rattle.text.specs.Feeding.{fitting}
use Rattle.replay.specs.Answering.{Printout, printout, answering}
use Rattle.replay.specs.Feeding.{after}

unfoldable pub replayed : List (List ℕ) → Printout → Printout
replayed [] t = t
replayed (l ∷ ls) t = replayed ls (after t.text (answering (parse_of l) t.after))

-- before the first line: nothing printed
abbrev pub start_of : Raw → Printout
start_of from = printout [] from

-- where the program stands once the lines ls have come, on a log that stood so before the first: the record and the
-- words are those after the lines that have ended; the line that has not is kept as its buffer keeps it; and the
-- answers that wait come after those handed over to be written
pub record Reached (from : Raw) (ls : Lines) (x : Raw) (line : Option (List ℕ)) (waits : List ℕ) : Type 0 where
  pub state : x ≡ (replayed ls.ended (start_of from)).after
  pub unended : line ≡ fitting input_line ls.rest
  pub handed : List ℕ
  pub answers : handed ++ waits ≡ (replayed ls.ended (start_of from)).text
