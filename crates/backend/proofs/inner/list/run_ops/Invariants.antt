-- `backend::inner::list::run_ops` meets its contract: what is left of the list, from the state so far, comes to what
-- the whole list does.
use Rattle.words.proofs.Prelude.{map, drop}
use Rattle.state_cache.specs.State.{raw, numbers_in}
use Rattle.backend.specs.{Ops.op_of, Ops.lent_of, Inner.midst_of, Inner.Kept}
use Rattle.backend.proofs.Turns.{Left, asked, end}
use Rattle.backend.proofs.inner.list.run_ops.Given as goal

abbrev pub invariant-loop-o : goal.invariant-loop-o
invariant-loop-o l =
    let x = raw l.so_far.index l.log l.snapshot in
    let first = raw l.before l.initial.log l.initial.snapshot in
    let lent = lent_of l.lent l.entries l.incoming in
    let ops = map op_of l.ops in
    Kept x
    × Left (numbers_in l.before) lent (drop l.o-index ops) (midst_of l.so_far.start x) (asked first lent ops)
    (end first lent ops)
