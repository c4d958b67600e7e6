-- `state_cache::inner::stop_decided` meets its contract: its two tests.
use Rattle.model.specs.Numbers.{stop_decided}
use Rattle.state_cache.proofs.inner.stop_decided.Goals as goal

pub returns : goal.returns
unfolding stop_decided
returns c =
    cc
