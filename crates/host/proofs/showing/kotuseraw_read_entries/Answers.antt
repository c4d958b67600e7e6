use Rattle.words.proofs.Prelude.{ap, ap₂, ◌∙◌, ℕ, true, List}
use Rattle.model.specs.{Read.Bound, Calls.query, Calls.read}
use Rattle.state_cache.specs.{State.raw, Run.run}
use Rattle.reading.specs.Replies.{part_shown}
use Rattle.host.specs.Reads.{copied_out}
use Rattle.host.proofs.showing.kotuseraw_read_entries.Goals as goal

pub returns : goal.returns
returns c =
    let ends = ap₂ (λ (x y : Bound). copied_out
    (part_shown (run (query (read x y)) true (raw c.args.index c.args.log.now c.args.snapshot.now)).answer
    c.args.log.now) c.args.out.now) c.start_of-start.ensures
    c.stop_of-stop.ensures in
    c.copy_out.ensures
    ∙ ap (λ (p : List ℕ). copied_out p c.args.out.now) c.read_entries.ensures.0
    ∙ ends
