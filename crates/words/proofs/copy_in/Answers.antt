-- `words::copy_in` meets its contract: after i turns the first i words of src stand from `at` on.
use Rattle.words.proofs.Prelude.{arith, ap, ◌∙◌, ◌+◌, ℕ, List, length-set, get_or}
use lib.ListN.{set}
use Rattle.std.proofs.lemmas.List.Edits.{paste_more}
use Rattle.words.proofs.copy_in.Goals as goal

pub loop-i-preserved : goal.loop-i-preserved
loop-i-preserved c =
    let l = c.loop-i in (
      ap (λ (d : List ℕ). set d (c.args.at + l.i) (get_or c.args.src.now l.i 0)) l.invariant.0
          ∙ paste_more c.args.s.now c.args.at c.args.src.now l.i 0 (omega arith) (omega arith),
      simp length-set (omega arith),
    )
