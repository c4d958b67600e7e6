-- `image::stop::put_nodes` meets its contract.
use Rattle.words.proofs.Prelude.{arith, sym, length, length-take-le}
use Rattle.image.proofs.Signs.{eights_total, nodes_put}
use Rattle.image.proofs.stop.put_nodes.Goals as goal

pub put_fields-requires : goal.put_fields-requires
put_fields-requires c =
    record {
      widths_in_bounds = omega (arith, eights_total (length c.args.nodes.now) c.requires.nodes_len);
      ns_len = sym (length-take-le _ _ (omega arith));
    }

pub returns : goal.returns
returns c =
    nodes_put c.args.s.now c.put_fields.new.s c.args.nodes.now c.args.at c.requires.nodes_len c.put_fields.ensures
