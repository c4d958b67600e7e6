-- `text::inner::put_entry` meets its contract.
use Rattle.text.specs.Answers.{entry_line}
use Rattle.words.proofs.Prelude.{rules}
use Rattle.text.proofs.inner.put_entry.Goals as goal

pub returns-then-decided : goal.returns-then-decided
unfolding entry_line
returns-then-decided c =
    record {
      upper_bound = search rules;
      out_after = rw c.if-decided.true c.put_change.ensures.out_after;
    }

pub returns : goal.returns
unfolding entry_line
returns c =
    record {
      upper_bound = search rules;
      out_after = rw c.if-decided.false c.put_change-2.ensures.out_after;
    }
