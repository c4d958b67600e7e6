-- `internal_storage::inner::check_append` meets its contract: each return takes the tests as far as it came.
use Rattle.words.proofs.Prelude.{arith, refl, ◌+◌, ◌≤◌, ◌<◌, lt-ltb, le-ltb}
use Rattle.entry.specs.{Guards.passes, Guards.refuses, Limits.entry_room, Limits.last_index}
use Rattle.entry.proofs.GuardLaws.{clear_all, passing, stopping, found}
use Rattle.model.specs.{Numbers.accepted_of, Append.append_guards}
use Rattle.state_cache.specs.State.{numbers_in}
use Rattle.state_cache.proofs.Small.{sound_small}
use Rattle.internal_storage.proofs.inner.check_append.Goals as goal

pub accepted-last-requires : goal.accepted-last-requires
accepted-last-requires c =
    sound_small _ c.requires

pub returns-then-index : goal.returns-then-index
unfolding append_guards
returns-then-index c =
    found {gs = append_guards c.args.n (numbers_in c.args.index)} {v = refuses 4 c.accepted-last.result}
    (stopping c.if-index.true c.accepted-last.ensures)

pub overflow_add-last : goal.overflow_add-last
overflow_add-last c =
    omega (arith, c.accepted-last.ensures, c.requires.inside)

pub overflow_sub-last : goal.overflow_sub-last
overflow_sub-last c =
    omega (arith, c.accepted-last.ensures, c.requires.inside)

pub returns-then-last-index : goal.returns-then-last-index
unfolding append_guards
returns-then-last-index c =
    let h : last_index < accepted_of (numbers_in c.args.index) + c.args.index.batched + c.args.n = omega
    (arith, c.accepted-last.ensures, c.requires.inside, c.if-last-index.true) in
    found {gs = append_guards c.args.n (numbers_in c.args.index)} {v = refuses 9 c.accepted-last.result}
    (passing c.if-index.false (stopping (lt-ltb _ _ h) c.accepted-last.ensures))

pub overflow_add-index : goal.overflow_add-index
overflow_add-index c =
    omega (arith, c.requires.room)

pub overflow_sub-index : goal.overflow_sub-index
overflow_sub-index c =
    omega (arith, c.requires.room)

pub returns-then-index-n : goal.returns-then-index-n
unfolding append_guards
returns-then-index-n c =
    let h : accepted_of (numbers_in c.args.index) + c.args.index.batched + c.args.n ≤ last_index = omega
    (arith, c.accepted-last.ensures, c.requires.inside, c.if-last-index.false) in
    let g : entry_room < c.args.index.retained + c.args.index.batched + c.args.n =
    omega (arith, c.requires.room, c.if-index-n.true) in
    found {gs = append_guards c.args.n (numbers_in c.args.index)} {v = refuses 1 0}
    (passing c.if-index.false (passing (le-ltb _ _ h) (stopping (lt-ltb _ _ g) refl)))

pub returns : goal.returns
unfolding append_guards
returns c =
    let h : accepted_of (numbers_in c.args.index) + c.args.index.batched + c.args.n ≤ last_index = omega
    (arith, c.accepted-last.ensures, c.requires.inside, c.if-last-index.false) in
    let g : c.args.index.retained + c.args.index.batched + c.args.n ≤ entry_room =
    omega (arith, c.requires.room, c.if-index-n.false) in
    found {gs = append_guards c.args.n (numbers_in c.args.index)} {v = passes}
    (passing c.if-index.false (passing (le-ltb _ _ h) (passing (le-ltb _ _ g) clear_all)))
