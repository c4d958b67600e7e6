-- `backend::inner::step::put_on_prefix` meets its contract: refusal 7 on either side of the run, then as at a place of
-- the run.
use Rattle.state_cache.specs.State.{raw, numbers_in}
use Rattle.backend.proofs.Goings.{prefix_outside, prefix_inside, prefix_goes}
use Rattle.backend.proofs.inner.step.put_on_prefix.Goals as goal

pub returns-then-from-start : goal.returns-then-from-start
returns-then-from-start c =
    prefix_outside c.args.so_far.start (raw c.args.so_far.index c.args.log.now c.args.snapshot.now) c.requires.kept
    (numbers_in c.args.before) c.args.from.0 c.saturating_sub-kept.result c.saturating_sub-kept.ensures
    c.args.entries.now c.args.log.now c.end-end.result c.end-end.ensures c.if-from-start.true

pub put_at-requires-clause-at_le_retained : goal.put_at-requires-clause-at_le_retained
put_at-requires-clause-at_le_retained c =
    prefix_inside c.args.so_far.start (raw c.args.so_far.index c.args.log.now c.args.snapshot.now) c.requires.kept
    (numbers_in c.args.before) c.args.from.0 c.saturating_sub-kept.result c.saturating_sub-kept.ensures
    c.args.entries.now c.args.log.now c.if-from-start.false

pub returns : goal.returns
returns c =
    prefix_goes c.args.so_far.start (raw c.args.so_far.index c.args.log.now c.args.snapshot.now) c.requires.kept
    (numbers_in c.args.before) c.args.from.0 c.saturating_sub-kept.result c.saturating_sub-kept.ensures
    c.args.entries.now c.put_at.new.log c.put_at.result c.if-from-start.false c.put_at.ensures
