-- `compaction::inner::compact_at` meets its contract: by what becomes of the run's start, and by what is then held.
use Rattle.entry.proofs.RefusalLaws.{passed_up}
use Rattle.state_cache.specs.State.{raw}
use Rattle.entry.specs.Upto.{upto_of}
use Rattle.compaction.specs.Inner.{Up, Movable}
use Rattle.compaction.proofs.Moving.{compact_stays, compact_above, movable, compact_over, compact_moves}
use Rattle.compaction.proofs.inner.compact_at.Goals as goal
use Rattle.compaction.proofs.inner.compact_at.Goals.{In-Some}

up : (k : In-Some) → Up (upto_of k.args.upto) k.args.index k.in-Some.to
up k = rw k.in-Some.is at k.in_ok-to.ensures

moves : (k : In-Some) → Movable k.in-Some.to k.args.index k.args.log.now
moves k =
    movable (raw k.args.index k.args.log.now k.args.snapshot.now) k.requires.okay k.args.what (upto_of k.args.upto) _
    (up k)

pub returns-in_err-to : goal.returns-in_err-to
returns-in_err-to c =
    rw (passed_up c.from_residual.result _ c.from_residual.ensures.1)
    (compact_above (raw c.args.index c.args.log.now c.args.snapshot.now) c.requires.okay c.args.what _ _
    c.in_err-to.ensures)

pub returns-in_default : goal.returns-in_default
returns-in_default c =
    compact_stays (raw c.args.index c.args.log.now c.args.snapshot.now) c.requires.okay c.args.what _
    (rw c.in_default.is at c.in_ok-to.ensures)

pub hold-requires : goal.hold-requires
hold-requires c = (c.requires, moves (goal.at.hold-requires c).In-Some)

pub returns-in_err-keys : goal.returns-in_err-keys
returns-in_err-keys c =
    rw (passed_up c.from_residual-in_err-keys.result _ c.from_residual-in_err-keys.ensures.1)
    (compact_over (raw c.args.index c.args.log.now c.args.snapshot.now) c.requires.okay c.args.what _ _
    (up (goal.at.returns-in_err-keys c).In-Some) _ _ c.hold.ensures _ c.in_err-keys.was)

pub move_to-requires : goal.move_to-requires
move_to-requires c = moves (goal.at.move_to-requires c).In-Some

pub returns : goal.returns
returns c =
    compact_moves (raw c.args.index c.args.log.now c.args.snapshot.now) c.requires.okay c.args.what _ _
    (up (goal.at.returns c).In-Some) _ _ c.hold.ensures _ c.in_ok-keys.was _ c.holds.ensures _ _ c.move_to.ensures
