-- `state_cache::inner::stop_formed` meets its contract: each callee says its own test.
use Rattle.state_cache.specs.State.{sign_held}
use Rattle.state_cache.proofs.inner.stop_formed.Goals as goal

pub returns : goal.returns
unfolding sign_held
returns c =
    cc
