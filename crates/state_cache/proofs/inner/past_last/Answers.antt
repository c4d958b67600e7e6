-- `state_cache::inner::past_last` meets its contract: by what is left of the indexes.
use Rattle.state_cache.proofs.{Small.past_high, Small.past_long}
use Rattle.state_cache.proofs.inner.past_last.Goals as goal

pub returns-then-more-a : goal.returns-then-more-a
returns-then-more-a c =
    past_high c.args.a c.args.n c.args.more c.requires c.if-more-a.true

pub returns : goal.returns
returns c =
    past_long c.args.a c.args.n c.args.more c.requires c.if-more-a.false
