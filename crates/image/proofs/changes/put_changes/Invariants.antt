-- `image::changes::put_changes` meets its contract: at each turn, what is left to put gives what is asked.
use Rattle.words.proofs.Prelude.{◌≡◌, ◌*◌, length}
use Rattle.words.specs.Words.{spliced}
use Rattle.entry.specs.Change.{entries_of}
use Rattle.image.specs.Layout.{change_size}
use Rattle.image.specs.Inner.{changes_bytes}
use Rattle.image.proofs.Puts.{left}
use Rattle.image.proofs.changes.put_changes.Given as goal

abbrev pub invariant-loop-i : goal.invariant-loop-i
invariant-loop-i l = record {
  long : length l.s ≡ length l.initial.s;
  rest : left l.mark l.words l.n l.i l.s l.at
      ≡ spliced l.at (l.n * change_size) (changes_bytes l.mark (entries_of l.n l.words)) l.initial.s;
}
