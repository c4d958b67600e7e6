-- `state_cache::inner::accepted` meets its contract: a sum.
use Rattle.words.proofs.Prelude.{arith, ap₂, ◌∙◌, ℕ, ◌+◌}
use Rattle.model.specs.Numbers.{end_of, accepted_of}
use Rattle.state_cache.proofs.{Small.one-le, Small.from_bool-one_if}
use Rattle.state_cache.proofs.inner.accepted.Goals as goal

pub overflow_add-result : goal.overflow_add-result
unfolding end_of
overflow_add-result c =
    omega (arith, one-le c.args.index.stop_held, c.end.ensures, c.from.ensures, from_bool-one_if c.args.index.stop_held)

pub returns : goal.returns
unfolding accepted_of
returns c =
    ap₂ (λ (a b : ℕ). a + b) c.end.ensures (c.from.ensures ∙ from_bool-one_if c.args.index.stop_held)
