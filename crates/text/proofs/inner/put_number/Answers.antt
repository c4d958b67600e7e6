-- `text::inner::put_number` meets its contract: a 64-bit number has no more digits than there is room for.
use Rattle.words.proofs.Prelude.{arith}
use Rattle.text.proofs.{AnswerLaws.decimal_most}
use Rattle.text.proofs.inner.put_number.Goals as goal

pub put_digits-requires : goal.put_digits-requires
put_digits-requires c = omega (arith, decimal_most c.args.n)

pub returns : goal.returns
returns c = record {
  upper_bound = omega (arith, decimal_most c.args.n);
  out_after = c.put_digits.ensures.out_after;
}
