-- `state_cache::well_formed` meets its contract: the sizes first, so that the sums of the rest fit.
use Rattle.words.proofs.Prelude.{arith, sym, ◌∙◌}
use Rattle.state_cache.specs.{State.numbers_in, State.formed, Inner.Small}
use Rattle.state_cache.proofs.{Small.small_of, Small.sizes_fail}
use Rattle.state_cache.proofs.well_formed.Goals as goal
use Rattle.state_cache.proofs.well_formed.Goals.{Else-not-sizes_formed}

small : (e : Else-not-sizes_formed) → Small (numbers_in e.args.index)
small e =
    small_of _ (sym e.sizes_formed.ensures ∙ e.if-not-sizes_formed.false)

pub returns-then-not-sizes_formed : goal.returns-then-not-sizes_formed
unfolding formed
returns-then-not-sizes_formed c =
    rw (sizes_fail _ (sym c.sizes_formed.ensures ∙ c.if-not-sizes_formed.true))

pub numbers_formed-numbers-requires : goal.numbers_formed-numbers-requires
numbers_formed-numbers-requires c =
    small c

pub overflow_add-index : goal.overflow_add-index
overflow_add-index c =
    let s = small (goal.at.overflow_add-index c).Else-not-sizes_formed in
    omega (arith, s.few, s.waiting)

pub returns : goal.returns
unfolding formed
returns c =
    cc
