-- `text::inner::put_run` meets its contract: the lines that are put and those of the entries that are left make the
-- whole.
use Rattle.words.proofs.Prelude.{◌≡◌, ◌+◌, ◌-◌, ◌*◌, ◌≤◌, ◌++◌}
use Rattle.words.proofs.Prelude.{length, take, drop}
use Rattle.entry.specs.{Change.entries_of}
use Rattle.text.specs.{Rooms.output_line, Answers.entry_lines}
use Rattle.text.proofs.inner.put_run.Given as goal

abbrev pub invariant-loop-i : goal.invariant-loop-i
invariant-loop-i l =
    (l.i ≤ l.n) × (l.o ≤ l.at + output_line * l.i) × (length l.out ≡ length l.initial.out)
    × (take l.o l.out ++ entry_lines (l.decided - l.i) (drop l.i (entries_of l.n l.entries)) ≡ take l.at l.initial.out
    ++ entry_lines l.decided (entries_of l.n l.entries))

abbrev pub decreases-loop-i : goal.decreases-loop-i
decreases-loop-i l = l.n - l.i
