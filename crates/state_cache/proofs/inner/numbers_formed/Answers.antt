-- `state_cache::inner::numbers_formed` meets its contract: its tests are the definition's.
use Rattle.words.proofs.Prelude.{arith}
use Rattle.model.specs.Numbers.{end_of, numbers_formed}
use Rattle.state_cache.specs.State.{numbers_in}
use Rattle.state_cache.proofs.{Small.accepted_le}
use Rattle.state_cache.proofs.inner.numbers_formed.Goals as goal

pub overflow_add-result : goal.overflow_add-result
unfolding end_of
overflow_add-result c =
    omega (arith, accepted_le (numbers_in c.args.index), c.accepted-all.ensures, c.requires)

pub returns : goal.returns
unfolding numbers_formed
returns c =
    cc
