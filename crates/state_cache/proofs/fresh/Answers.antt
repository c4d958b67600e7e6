-- `state_cache::fresh` meets its contract: refusal 11, or zeros over both slices.
use Rattle.state_cache.proofs.{Changes.fresh_refused, Changes.fresh_stands}
use Rattle.state_cache.proofs.fresh.Goals as goal

pub returns-then-not-sized-roomy : goal.returns-then-not-sized-roomy
returns-then-not-sized-roomy c =
    fresh_refused c.args.batch_size c.args.log.now c.args.snapshot.now c.if-not-sized-roomy.true

pub returns : goal.returns
returns c =
    rw c.fresh_index.ensures (fresh_stands c.args.batch_size c.args.log.now c.args.snapshot.now
    c.if-not-sized-roomy.false c.clear.new.s c.clear-2.new.s c.clear.ensures c.clear-2.ensures)
