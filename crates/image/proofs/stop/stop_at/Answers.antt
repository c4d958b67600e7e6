-- `image::stop::stop_at` meets its contract, test by test.
use Rattle.words.proofs.Prelude.{arith, sym, ◌∙◌}
use Rattle.image.proofs.Stops.{nodes_here, metadata_here, stop_short, stop_cut, stop_nodes, stop_metadata}
use Rattle.image.proofs.Stops.{stop_open, stop_whole}
use Rattle.image.proofs.stop.stop_at.Goals as goal

pub returns-then-left-lt-STOP : goal.returns-then-left-lt-STOP
returns-then-left-lt-STOP c =
    stop_short c.args.s.now c.args.at c.args.metadata (omega arith)

pub returns-then-count-gt-NODES : goal.returns-then-count-gt-NODES
returns-then-count-gt-NODES c =
    let n = c.get_big-count.ensures ∙ sym (nodes_here c.args.s.now c.args.at c.args.metadata) in
    stop_nodes c.args.s.now c.args.at c.args.metadata (omega (arith, n))

pub returns-then-left-nodes : goal.returns-then-left-nodes
returns-then-left-nodes c =
    let n = c.get_big-count.ensures ∙ sym (nodes_here c.args.s.now c.args.at c.args.metadata) in
    stop_cut c.args.s.now c.args.at c.args.metadata (omega (arith, n))

pub returns-then-used-gt-METADATA : goal.returns-then-used-gt-METADATA
returns-then-used-gt-METADATA c =
    let n = c.get_big-count.ensures ∙ sym (nodes_here c.args.s.now c.args.at c.args.metadata) in
    let l = c.get_big-used.ensures ∙ sym (metadata_here c.args.s.now c.args.at c.args.metadata c.get_big-count.result n) in
    stop_metadata c.args.s.now c.args.at c.args.metadata (omega (arith, l))

pub returns-then-not-sealed_at : goal.returns-then-not-sealed_at
returns-then-not-sealed_at c =
    let n = c.get_big-count.ensures ∙ sym (nodes_here c.args.s.now c.args.at c.args.metadata) in
    let l = c.get_big-used.ensures ∙ sym (metadata_here c.args.s.now c.args.at c.args.metadata c.get_big-count.result n) in
    stop_open c.args.s.now c.args.at c.args.metadata _ (omega (arith, n, l))
    (sym c.sealed_at.ensures ∙ c.if-not-sealed_at.true)

pub returns : goal.returns
returns c =
    let n = c.get_big-count.ensures ∙ sym (nodes_here c.args.s.now c.args.at c.args.metadata) in
    let l = c.get_big-used.ensures ∙ sym (metadata_here c.args.s.now c.args.at c.args.metadata c.get_big-count.result n) in
    c.then_some.ensures
    ∙ stop_whole c.args.s.now c.args.at c.args.metadata _ (omega (arith, n, l)) c.get_big-marked.result c.get_big-count.result
    c.get_big-used.result (sym c.sealed_at.ensures ∙ c.if-not-sealed_at.false) (omega (arith, n))
    (omega (arith, l)) c.get_big-marked.ensures n l
