-- `replay::feed::take_part` meets its contract: so many bytes of the part have come.
use Rattle.words.proofs.Prelude.{◌≡◌, ◌+◌, ◌-◌, ◌≤◌, length, take}
use Rattle.entry.specs.Limits.{log_words}
use Rattle.state_cache.specs.State.{Raw, raw}
use Rattle.text.specs.{Lines.Lines, Lines.lines_from, Feeding.come, Rooms.input_line}
use Rattle.replay.specs.{Feeding.out_room, Input.Reached}
use Rattle.replay.proofs.feed.take_part.Given as goal

abbrev pub invariant-loop-at : goal.invariant-loop-at
invariant-loop-at l =
    ((l.at ≤ length l.part + 1) × (l.s.held.len ≤ length l.line) × (l.s.used ≤ out_room) × (length l.out ≡ out_room)
    × (length l.log ≡ log_words) × (length l.line ≡ input_line)
    × (length l.line ≡ length l.initial.line) × (length l.log ≡ length l.initial.log)
    × (length l.snapshot ≡ length l.initial.snapshot) × (length l.out ≡ length l.initial.out))
    × ((from : Raw) (ls : Lines)
    → Reached from ls (raw l.initial.s.index l.initial.log l.initial.snapshot)
    (come l.initial.s.held.over l.initial.s.held.len l.initial.line) (take l.initial.s.used l.initial.out)
    → Reached from (lines_from ls (take l.at l.part)) (raw l.s.index l.log l.snapshot)
    (come l.s.held.over l.s.held.len l.line) (take l.s.used l.out))

abbrev pub decreases-loop-at : goal.decreases-loop-at
decreases-loop-at l = length l.part + 1 - l.at
