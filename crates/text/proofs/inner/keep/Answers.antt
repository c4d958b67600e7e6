-- `text::inner::keep` meets its contract.
use Rattle.words.proofs.Prelude.{arith}
use Rattle.text.proofs.{FeedLaws.joined_cut, FeedLaws.joined-more}
use Rattle.text.proofs.inner.keep.Goals as goal

pub returns-then-part-line : goal.returns-then-part-line
returns-then-part-line c =
    record {
      len_in_bounds = omega arith;
      line_after = joined_cut c.args.held.over c.args.held.len c.args.line.now c.args.part.now (omega arith) (omega arith);
    }

pub returns : goal.returns
returns c =
    let put = c.put-n in record {
      len_in_bounds = omega arith;
      line_after = joined-more c.args.held.over c.args.held.len put.result c.args.line.now put.new.out
          c.args.part.now (omega arith) (omega arith) put.ensures.out_after;
    }
