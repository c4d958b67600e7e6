-- `text::inner::put_stop` meets its contract.
use Rattle.text.specs.Answers.{line_of}
use Rattle.words.proofs.Prelude.{rules}
use Rattle.text.proofs.inner.put_stop.Goals as goal

pub returns-then-decided : goal.returns-then-decided
unfolding line_of
returns-then-decided c =
    record {
      upper_bound = search rules;
      out_after = rw c.if-decided.true c.put_one.ensures.out_after;
    }

pub returns : goal.returns
unfolding line_of
returns c =
    record {
      upper_bound = search rules;
      out_after = rw c.if-decided.false c.put_one-2.ensures.out_after;
    }
