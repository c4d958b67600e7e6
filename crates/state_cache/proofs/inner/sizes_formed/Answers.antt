-- `state_cache::inner::sizes_formed` meets its contract: its tests are the definition's.
use Rattle.words.proofs.Prelude.{refl}
use Rattle.state_cache.specs.Inner.{sizes_formed}
use Rattle.state_cache.proofs.inner.sizes_formed.Goals as goal

pub returns : goal.returns
unfolding sizes_formed
returns c =
    refl
