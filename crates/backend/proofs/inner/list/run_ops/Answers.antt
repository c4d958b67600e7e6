-- `backend::inner::list::run_ops` meets its contract: what is left of the list, from the state so far, comes to what
-- the whole list does.
use Rattle.entry.proofs.RefusalLaws.{passed_up}
use Rattle.words.proofs.Prelude.{take}
use Rattle.state_cache.specs.State.{raw, numbers_in}
use Rattle.backend.specs.{Ops.ops_in, Ops.lent_of, Inner.midst_of}
use Rattle.backend.proofs.Turns.{asked, end, is_supplied, turn_refused, turn_left, ended, all_left, last_refused}
use Rattle.backend.proofs.Turns.{stood, ops_supplied}
use Rattle.backend.proofs.Amid.{ready_held}
use Rattle.backend.proofs.inner.list.run_ops.Goals as goal

pub loop-o-init : goal.loop-o-init
loop-o-init c =
    let r = raw c.args.before c.args.log.now c.args.snapshot.now in
    let l = lent_of c.args.lent c.args.entries.now c.args.incoming.now in
    (ready_held r c.requires.ready, all_left r l (ops_in c.args.list))

pub step-requires-clause-kept : goal.step-requires-clause-kept
step-requires-clause-kept c = c.loop-o.invariant.0

pub step-requires-clause-o_value : goal.step-requires-clause-o_value
step-requires-clause-o_value c =
    let v = c.loop-o in
    let r = raw c.args.before c.args.log.now c.args.snapshot.now in
    let l = lent_of c.args.lent c.args.entries.now c.args.incoming.now in
    let ops = ops_in c.args.list in
    is_supplied (numbers_in c.args.before) l (take c.args.list.count c.args.list.ops) (asked r l ops) (end r l ops)
    (midst_of v.so_far.start (raw v.so_far.index v.log v.snapshot)) v.o-index v.invariant.1 c.loop-o-test.true
    (ops_supplied l ops c.requires.okay)

pub returns-in_err-so_far : goal.returns-in_err-so_far
returns-in_err-so_far c =
    let v = c.loop-o in
    let r = raw c.args.before c.args.log.now c.args.snapshot.now in
    let l = lent_of c.args.lent c.args.entries.now c.args.incoming.now in
    let ops = ops_in c.args.list in
    rw (passed_up c.from_residual.result _ c.from_residual.ensures.1)
    (turn_refused (numbers_in c.args.before) l (take c.args.list.count c.args.list.ops) (asked r l ops) (end r l ops)
    (midst_of v.so_far.start (raw v.so_far.index v.log v.snapshot)) v.o-index v.invariant.1 c.loop-o-test.true
    _ _ c.in_err-so_far.ensures)

pub loop-o-preserved : goal.loop-o-preserved
loop-o-preserved c =
    let v = c.loop-o in
    let r = raw c.args.before c.args.log.now c.args.snapshot.now in
    let l = lent_of c.args.lent c.args.entries.now c.args.incoming.now in
    let ops = ops_in c.args.list in (
      (c.in_ok-so_far.ensures).kept,
      turn_left (numbers_in c.args.before) l (take c.args.list.count c.args.list.ops) (asked r l ops) (end r l ops)
          (midst_of v.so_far.start (raw v.so_far.index v.log v.snapshot)) v.o-index v.invariant.1 c.loop-o-test.true
          c.in_ok-so_far.so_far c.step.new.log c.step.new.snapshot c.in_ok-so_far.ensures,
    )

pub returns-in_err-judge_last : goal.returns-in_err-judge_last
returns-in_err-judge_last c =
    let v = c.loop-o in
    let r = raw c.args.before c.args.log.now c.args.snapshot.now in
    let l = lent_of c.args.lent c.args.entries.now c.args.incoming.now in
    let ops = ops_in c.args.list in
    let x = raw v.so_far.index v.log v.snapshot in
    rw (passed_up c.from_residual-in_err-judge_last.result _ c.from_residual-in_err-judge_last.ensures.1)
    (last_refused r l ops (numbers_in c.args.before) v.so_far.start x v.invariant.0
    (ended (numbers_in c.args.before) l (take c.args.list.count c.args.list.ops) (asked r l ops) (end r l ops)
    (midst_of v.so_far.start x) v.o-index v.invariant.1 c.loop-o-test.false)
    _ c.in_err-judge_last.ensures)

pub returns : goal.returns
returns c =
    let v = c.loop-o in
    let r = raw c.args.before c.args.log.now c.args.snapshot.now in
    let l = lent_of c.args.lent c.args.entries.now c.args.incoming.now in
    let ops = ops_in c.args.list in
    let x = raw v.so_far.index v.log v.snapshot in
    stood r l ops (numbers_in c.args.before) v.so_far.start x v.invariant.0
    (ended (numbers_in c.args.before) l (take c.args.list.count c.args.list.ops) (asked r l ops) (end r l ops)
    (midst_of v.so_far.start x) v.o-index v.invariant.1 c.loop-o-test.false)
    c.in_ok-judge_last.ensures
