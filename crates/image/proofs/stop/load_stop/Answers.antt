-- `image::stop::load_stop` meets its contract: each part from its bytes.
use Rattle.words.proofs.Prelude.{arith, ◌≡◌, sym, ◌∙◌, ◌+◌, ◌≤◌, length, drop}
use Rattle.image.specs.Layout.{stop_size}
use Rattle.image.specs.Reading.{nodes_at, metadata_at}
use Rattle.image.proofs.RecLaws.{Counts}
use Rattle.image.proofs.Stops.{nodes_here, metadata_here}
use Rattle.image.proofs.Signs.{stop_counts, stop_room, sign_loaded}
use Rattle.image.proofs.stop.load_stop.Goals as goal
use Rattle.image.proofs.stop.load_stop.Goals.{After-get_big-count, After-get_big-used, Start}

few : (c : Start) → Counts (nodes_at (drop c.args.at c.args.s.now))
    (metadata_at (drop c.args.at c.args.s.now))
few c =
    stop_counts c.args.metadata c.args.s.now c.args.at c.requires.at_in_bounds c.requires.s_value

room : (c : Start) → c.args.at + stop_size (nodes_at (drop c.args.at c.args.s.now))
    (metadata_at (drop c.args.at c.args.s.now)) ≤ length c.args.s.now
room c =
    stop_room c.args.metadata c.args.s.now c.args.at c.requires.at_in_bounds c.requires.s_value

nodes : (c : After-get_big-count)
    → c.get_big-count.result ≡ nodes_at
    (drop c.args.at c.args.s.now)
nodes c =
    c.get_big-count.ensures ∙ sym (nodes_here c.args.s.now c.args.at c.args.metadata)

used : (c : After-get_big-used)
    → c.get_big-used.result ≡ metadata_at
    (drop c.args.at c.args.s.now)
used c =
    let h : c.get_big-count.result ≡ nodes_at (drop c.args.at c.args.s.now) =
    c.get_big-count.ensures ∙ sym (nodes_here c.args.s.now c.args.at c.args.metadata) in
    c.get_big-used.ensures ∙ sym (metadata_here c.args.s.now c.args.at c.args.metadata c.get_big-count.result h)

pub load_nodes-nodes-requires : goal.load_nodes-nodes-requires
load_nodes-nodes-requires c =
    record {
      n_le_most_nodes = omega (arith, nodes (goal.at.load_nodes-nodes-requires c).After-get_big-count, (few (goal.at.load_nodes-nodes-requires c).Start).few);
      n_in_bounds = omega (arith, nodes (goal.at.load_nodes-nodes-requires c).After-get_big-count, room (goal.at.load_nodes-nodes-requires c).Start);
    }

pub load_metadata-bytes-requires : goal.load_metadata-bytes-requires
load_metadata-bytes-requires c =
    record {
      n_le_most_metadata = omega (arith, used (goal.at.load_metadata-bytes-requires c).After-get_big-used, (few (goal.at.load_metadata-bytes-requires c).Start).short);
      n_in_bounds = omega (arith, used (goal.at.load_metadata-bytes-requires c).After-get_big-used, nodes (goal.at.load_metadata-bytes-requires c).After-get_big-count, room (goal.at.load_metadata-bytes-requires c).Start);
    }

pub returns : goal.returns
returns c =
    sign_loaded c.args.metadata c.args.s.now c.args.at c.requires.at_in_bounds c.requires.s_value c.four_at-config_id.result
    c.get_big-count.result c.get_big-used.result c.load_nodes-nodes.result c.load_metadata-bytes.result
    c.four_at-config_id.ensures
    (nodes (goal.at.returns c).After-get_big-count) (used (goal.at.returns c).After-get_big-used) c.load_nodes-nodes.ensures c.load_metadata-bytes.ensures

pub four_at-config_id-requires : goal.four_at-config_id-requires
four_at-config_id-requires c =
    omega (arith, room (goal.at.four_at-config_id-requires c).Start)

pub get_big-count-requires : goal.get_big-count-requires
get_big-count-requires c =
    record { k_in_bounds = omega (arith, room (goal.at.get_big-count-requires c).Start); k_bound = omega arith }

pub overflow_mul-here : goal.overflow_mul-here
overflow_mul-here c =
    omega (arith, nodes c, (few (goal.at.overflow_mul-here c).Start).few)

pub overflow_add-here : goal.overflow_add-here
overflow_add-here c =
    omega (arith, nodes c, (few (goal.at.overflow_add-here c).Start).few)

pub overflow_add-here-2 : goal.overflow_add-here-2
overflow_add-here-2 c =
    omega (arith, nodes c, room (goal.at.overflow_add-here-2 c).Start)

pub get_big-used-requires : goal.get_big-used-requires
get_big-used-requires c =
    record {
      k_in_bounds = omega (arith, nodes (goal.at.get_big-used-requires c).After-get_big-count, room (goal.at.get_big-used-requires c).Start);
      k_bound = omega arith;
    }

pub overflow_add-here-3 : goal.overflow_add-here-3
overflow_add-here-3 c =
    omega (arith, nodes (goal.at.overflow_add-here-3 c).After-get_big-count, room (goal.at.overflow_add-here-3 c).Start)
