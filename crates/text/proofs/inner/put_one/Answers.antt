-- `text::inner::put_one` meets its contract: three pieces, one after the other.
use Rattle.words.proofs.Prelude.{rules}
use Rattle.words.proofs.Prelude.{take}
use Rattle.text.specs.Answers.{decimal_of}
use Rattle.text.proofs.{AnswerLaws.glue}
use Rattle.text.proofs.inner.put_one.Goals as goal

pub returns : goal.returns
returns c =
    record {
      upper_bound = search rules;
      out_after = glue (take c.args.at c.args.out.now) c.args.label.now (decimal_of c.args.n) c.args.tail.now
          c.put.ensures.out_after c.put_number-b.ensures.out_after c.put-a.ensures.out_after;
    }
