-- `image::changes::put_change` meets its contract: the mark, the words, the sum.
use Rattle.words.proofs.Prelude.{rules}
use Rattle.records.specs.Sealed.{total}
use Rattle.image.proofs.Puts.{change_put}
use Rattle.image.proofs.changes.put_change.Goals as goal

pub put_fields-requires : goal.put_fields-requires
unfolding total
put_fields-requires c =
    record {
      widths_in_bounds = search rules;
      ns_len = c.requires.words_len;
    }

pub returns : goal.returns
unfolding total
returns c =
    change_put c.args.s.now c.put_big.new.s c.put_fields.new.s c.put_sum.new.s
    c.args.words.now
    c.args.at c.args.mark c.requires.change_size_in_bounds c.requires.words_len c.put_big.ensures c.put_fields.ensures
    c.put_sum.ensures
