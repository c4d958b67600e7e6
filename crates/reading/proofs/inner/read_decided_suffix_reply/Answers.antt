-- `reading::inner::read_decided_suffix_reply` meets its contract: by the numbers.
use Rattle.words.proofs.Prelude.{ap, ◌∙◌}
use Rattle.state_cache.specs.State.{raw}
use Rattle.std.specs.Prelude.{Option as Optional}
use Rattle.entry.specs.Guards.{replied}
use Rattle.reading.specs.{declared.ShownRun.ShownRun, Replies.run_is}
use Rattle.reading.proofs.Replying.{suffix_answer, suffix_none}
use Rattle.reading.proofs.inner.read_decided_suffix_reply.Goals as goal

pub returns-then-index-from : goal.returns-then-index-from
returns-then-index-from c =
    let x = raw c.args.index c.args.log.now c.args.snapshot.now in
    suffix_none x c.requires c.args.from.0 c.if-index-from.true

pub returns : goal.returns
returns c =
    let x = raw c.args.index c.args.log.now c.args.snapshot.now in
    ap (λ (s : Optional ShownRun). replied (run_is x s)) c.read_at.ensures
    ∙ suffix_answer x c.requires c.args.from.0 c.if-index-from.false
