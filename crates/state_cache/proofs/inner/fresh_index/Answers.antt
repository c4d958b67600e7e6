-- `state_cache::inner::fresh_index` meets its contract: field by field.
use Rattle.words.proofs.Prelude.{refl}
use Rattle.model.specs.Log.{fresh_log}
use Rattle.state_cache.specs.State.{index_of}
use Rattle.state_cache.proofs.inner.fresh_index.Goals as goal

pub returns : goal.returns
unfolding index_of fresh_log
returns c =
    rw (c.no_sign.ensures, c.with-none.ensures) refl
