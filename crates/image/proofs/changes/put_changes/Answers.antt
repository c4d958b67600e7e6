-- `image::changes::put_changes` meets its contract: at each turn, what is left to put gives what is asked.
use Rattle.words.proofs.Prelude.{arith, sym, ◌∙◌, ◌+◌, ◌-◌, ◌*◌}
use Rattle.entry.specs.Limits.{width}
use Rattle.image.proofs.Puts.{change_is, change_length, changes_turn, changes_done}
use Rattle.image.proofs.changes.put_changes.Goals as goal

pub loop-i-preserved : goal.loop-i-preserved
loop-i-preserved c =
    let l = c.loop-i in
    let e = change_is c.args.mark c.args.words.now c.args.n l.i l.s c.args.at c.put_change.new.s
    (l.i * width + width - l.i * width) (omega arith) c.put_change.ensures in
    record {
      long = change_length c.args.mark c.args.words.now c.args.n l.i l.s c.args.at c.put_change.new.s (omega arith) e
          ∙ l.invariant.long;
      rest = changes_turn c.args.mark c.args.words.now c.args.n l.i l.s c.args.at c.put_change.new.s (omega arith)
          (omega arith) e
          ∙ l.invariant.rest;
    }

pub returns : goal.returns
returns c =
    let l = c.loop-i in
    sym (changes_done c.args.mark c.args.words.now c.args.n l.i l.s c.args.at (omega arith)) ∙ l.invariant.rest
