-- `state_cache::inner::end` meets its contract: a sum.
use Rattle.words.proofs.Prelude.{refl}
use Rattle.model.specs.Numbers.{end_of}
use Rattle.state_cache.proofs.inner.end.Goals as goal

pub returns : goal.returns
unfolding end_of
returns c =
    refl
