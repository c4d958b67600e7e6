-- `text::inner::put_two` meets its contract.
use Rattle.words.proofs.Prelude.{rules}
use Rattle.words.proofs.Prelude.{take}
use Rattle.text.specs.{Bytes.bytes, Answers.decimal_of}
use Rattle.text.proofs.{AnswerLaws.glue_two}
use Rattle.text.proofs.inner.put_two.Goals as goal

pub returns : goal.returns
returns c =
    record {
      upper_bound = search rules;
      out_after = glue_two (take c.args.at c.args.out.now) c.args.label.now (decimal_of c.args.m) (bytes " ")
          (decimal_of c.args.n) (bytes "\n") c.put_count.ensures.out_after c.put_one-a.ensures.out_after;
    }
