-- `image::stop::put_stop` meets its contract: the fields one behind the other, and their sum.
use Rattle.words.proofs.Prelude.{rules}
use Rattle.words.proofs.Prelude.{arith, ◌≡◌, refl, ap, ◌∙◌, ℕ, ◌+◌, ◌*◌, map, take, length, length-take-le}
use Rattle.words.specs.Words.{spliced}
use Rattle.entry.specs.Limits.{most_nodes, most_metadata}
use Rattle.records.specs.Sealed.{total, field, packed}
use Rattle.image.proofs.RecLaws.{Counts, counts}
use Rattle.image.proofs.Signs.{stop_put}
use Rattle.image.proofs.stop.put_stop.Goals as goal
use Rattle.image.proofs.stop.put_stop.Goals.{Start}

few : (c : Start) → Counts c.args.stop.node_count c.args.stop.metadata_len
few c =
    counts c.args.stop c.requires.stop_value

long : (c : Start) → length c.args.stop.nodes ≡ most_nodes
long c =
    search rules

wide : (c : Start) → length c.args.stop.metadata ≡ most_metadata
wide c =
    search rules

pub put_fields-requires : goal.put_fields-requires
unfolding total
put_fields-requires c =
    record {
      widths_in_bounds = omega arith;
      ns_len = refl;
    }

nodes : (c : Start) → length (take c.args.stop.node_count c.args.stop.nodes) ≡ c.args.stop.node_count
nodes c =
    length-take-le c.args.stop.node_count c.args.stop.nodes (omega (arith, (few c).few, long c))

bytes : (c : Start) → length (take c.args.stop.metadata_len c.args.stop.metadata) ≡ c.args.stop.metadata_len
bytes c =
    length-take-le c.args.stop.metadata_len c.args.stop.metadata (omega (arith, (few c).short, wide c))

pub put_nodes-requires : goal.put_nodes-requires
put_nodes-requires c =
    let n = nodes (goal.at.put_nodes-requires c).Start in record {
      nodes_len = omega (arith, n, (few (goal.at.put_nodes-requires c).Start).few);
      nodes_in_bounds = omega (arith, n);
    }

pub put_bytes-requires : goal.put_bytes-requires
put_bytes-requires c =
    omega (arith, bytes (goal.at.put_bytes-requires c).Start)

pub put_sum-requires : goal.put_sum-requires
put_sum-requires c =
    record {
      k_in_bounds = search rules;
      k_bound = let x = few (goal.at.put_sum-requires c).Start in omega (arith, x.few, x.short);
    }

pub returns : goal.returns
unfolding total
returns c =
    let x = (goal.at.returns c).Start in
    stop_put c.args.stop (few x) (long x) (wide x) c.args.s.now c.args.at c.requires.metadata_len_in_bounds
    c.put_fields.new.s
    c.put_nodes.new.s c.put_big.new.s c.put_bytes.new.s c.put_sum.new.s
    c.put_fields.ensures
    (c.put_nodes.ensures
    ∙ ap (λ (n : ℕ). spliced (c.args.at + 7) (n * 8)
    (packed (map (field 8) (take c.args.stop.node_count c.args.stop.nodes))) c.put_fields.new.s)
    (nodes x)) c.put_big.ensures
    (c.put_bytes.ensures
    ∙ ap (λ (n : ℕ). spliced (c.args.at + (7 + c.args.stop.node_count * 8) + 1) n
    (packed (map (field 1) (take c.args.stop.metadata_len c.args.stop.metadata))) c.put_big.new.s)
    (bytes x)) c.put_sum.ensures

pub shared_ref_as_front-put_nodes : goal.shared_ref_as_front-put_nodes
shared_ref_as_front-put_nodes c =
    (few (goal.at.shared_ref_as_front-put_nodes c).Start).few

pub shared_ref_as_front-put_bytes : goal.shared_ref_as_front-put_bytes
shared_ref_as_front-put_bytes c =
    (few (goal.at.shared_ref_as_front-put_bytes c).Start).short
