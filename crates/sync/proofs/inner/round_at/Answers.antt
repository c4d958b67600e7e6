-- `sync::inner::round_at` meets its contract: refusal 6, or the marks.
use Rattle.sync.proofs.{Checking.round_refused, Checking.round_passes}
use Rattle.sync.proofs.inner.round_at.Goals as goal

pub returns-then-last-next : goal.returns-then-last-next
returns-then-last-next c =
    round_refused c.args.accepted_round c.args.decided_idx.0 c.accepted.result c.args.index c.mark-next.result
    c.accepted.ensures c.mark-next.ensures c.if-last-next.true

pub returns : goal.returns
returns c =
    round_passes c.args.accepted_round c.args.decided_idx.0 c.accepted.result c.args.index c.mark-next.result
    c.accepted.ensures c.mark-next.ensures c.if-last-next.false
