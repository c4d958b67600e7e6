-- `image::stop::load_nodes` meets its contract.
use Rattle.words.proofs.Prelude.{arith}
use Rattle.image.proofs.Signs.{eights_total, eights_narrow, same_count, nodes_got}
use Rattle.image.proofs.stop.load_nodes.Goals as goal

pub get_fields-requires : goal.get_fields-requires
get_fields-requires c =
    record {
      widths_in_bounds = omega (arith, eights_total c.args.n c.requires.n_le_most_nodes);
      widths_value = eights_narrow c.args.n c.requires.n_le_most_nodes;
      ns_len = same_count c.args.n _ _ (omega arith) (omega arith);
    }

pub returns : goal.returns
returns c =
    nodes_got c.args.s.now c.get_fields.new.ns c.args.at c.args.n c.requires.n_le_most_nodes
    c.get_fields.ensures
