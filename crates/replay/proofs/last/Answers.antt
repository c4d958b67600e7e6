-- `replay::last` hands the save the state after the last line.
use Rattle.text.specs.Lines.{lines_of}
use Rattle.replay.proofs.last.Goals as goal

pub save-requires-clause-ended : goal.save-requires-clause-ended
save-requires-clause-ended c =
    let stands = c.requires.standing in
    let reached = c.in_ok-s.ensures.reached stands.from (lines_of stands.input) stands.reached in
    record { from = stands.from; begins = stands.begins; input = stands.input; state = reached.state }
