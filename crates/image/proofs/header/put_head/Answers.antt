-- `image::header::put_head` meets its contract: sixteen fields and their sum.
use Rattle.words.proofs.Prelude.{arith, refl}
use Rattle.records.specs.Sealed.{total}
use Rattle.image.proofs.Puts.{head_put}
use Rattle.image.proofs.header.put_head.Goals as goal

pub put_fields-requires : goal.put_fields-requires
unfolding total
put_fields-requires c =
    record {
      widths_in_bounds = omega arith;
      ns_len = refl;
    }

pub returns : goal.returns
unfolding total
returns c =
    head_put c.args.h c.args.s.now c.put_fields.new.s c.put_sum.new.s c.flags-held.result
    c.requires
    c.flags-held.ensures c.put_fields.ensures c.put_sum.ensures
