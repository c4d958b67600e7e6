-- `replay::main` keeps where the program stands: at each turn some input has come, and its lines have been answered
-- from the log that the program started from.
use Rattle.words.proofs.Prelude.{◌≤◌, take}
use Rattle.state_cache.specs.{State.raw}
use Rattle.text.specs.{Feeding.come, Rooms.input_line}
use Rattle.replay.specs.{Feeding.out_room, File.Standing}
use Rattle.replay.proofs.main.Given as goal

abbrev pub invariant-loop : goal.invariant-loop
invariant-loop l =
    ((l.s.held.len ≤ input_line) × (l.s.used ≤ out_room))
    × Standing l.given (raw l.s.index l.log l.snapshot) (come l.s.held.over l.s.held.len l.line) (take l.s.used l.out)
