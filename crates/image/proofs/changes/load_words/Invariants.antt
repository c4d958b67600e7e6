-- `image::changes::load_words` meets its contract: at each turn, what is left to load gives what is asked.
use Rattle.words.proofs.Prelude.{◌≡◌, ◌*◌, length, drop}
use Rattle.words.specs.Words.{spliced}
use Rattle.entry.specs.Limits.{width}
use Rattle.image.proofs.Loads.{to_load, left}
use Rattle.image.proofs.changes.load_words.Given as goal

abbrev pub invariant-loop-i : goal.invariant-loop-i
invariant-loop-i l = record {
  long : length l.words ≡ length l.initial.words;
  rest : left l.s l.n l.i l.at l.words
      ≡ spliced 0 (l.n * width) (to_load l.n (drop l.at l.s)) l.initial.words;
}
