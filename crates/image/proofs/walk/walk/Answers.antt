-- `image::walk::walk` meets its contract.
use Rattle.words.proofs.Prelude.{arith, sym, ◌∙◌, ◌+◌, ◌≤◌, length}
use Rattle.entry.proofs.RefusalLaws.{passed_up}
use Rattle.records.proofs.Loops.{bytes_of}
use Rattle.image.specs.Inner.{floor_of}
use Rattle.image.proofs.Walks.{At, wants_long, flag_long, at_start, passed, stopped, done_whole, done_short}
use Rattle.image.proofs.walk.walk.Goals as goal
use Rattle.image.proofs.walk.walk.Goals.{In_ok-step}

step : (c : In_ok-step)
    → (c.loop-i.here + c.in_ok-step.step.size ≤ length c.args.s.now)
    × At c.args.h c.args.s.now (c.loop-i.i + 1) (c.loop-i.here + c.in_ok-step.step.size)
    (floor_of c.in_ok-step.step.above)
step c =
    let l = c.loop-i in
    passed c.args.h c.args.s.now l.i l.here l.above l.invariant.stands _ c.want_at.ensures _ c.record_at.ensures _
    (sym c.ok_or.ensures.value ∙ c.in_ok-step.was) (bytes_of c.args.s.now c.type_inv.s) l.invariant.within

pub loop-i-init : goal.loop-i-init
loop-i-init c =
    record {
      all = omega (arith, wants_long c.args.h, c.from.ensures, flag_long c.args.h.stop);
      within = c.requires.head_size_in_bounds;
      stands = at_start c.args.h c.args.s.now;
    }

pub returns-in_err-step : goal.returns-in_err-step
returns-in_err-step c =
    let l = c.loop-i in
    passed_up c.from_residual.result _ c.from_residual.ensures.1
    ∙ stopped c.args.h c.args.s.now l.i l.here l.above l.invariant.stands _ c.want_at.ensures _ c.record_at.ensures _
    (sym c.ok_or.ensures.value ∙ c.in_err-step.was) (omega (arith, l.invariant.all))

pub returns-then-here-s : goal.returns-then-here-s
returns-then-here-s c =
    let l = c.loop-i in
    done_short c.args.h c.args.s.now l.i l.here l.above l.invariant.stands (omega (arith, l.invariant.all))
    c.if-here-s.true

pub overflow_add-here : goal.overflow_add-here
overflow_add-here c =
    omega (arith, (step (goal.at.overflow_add-here c).In_ok-step).0)

pub loop-i-preserved : goal.loop-i-preserved
loop-i-preserved c =
    let x = step (goal.at.loop-i-preserved c).In_ok-step in
    record { all = c.loop-i.invariant.all; within = x.0; stands = x.1 }

pub returns : goal.returns
returns c =
    let l = c.loop-i in
    done_whole c.args.h c.args.s.now l.i l.here l.above l.invariant.stands (omega (arith, l.invariant.all))
    c.if-here-s.false
