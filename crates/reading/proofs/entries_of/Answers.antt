-- `reading::entries_of` meets its contract: where the part does not fit it is empty.
use Rattle.words.proofs.Prelude.{arith}
use Rattle.reading.proofs.{Showing.part_none, Showing.part_cut}
use Rattle.reading.proofs.entries_of.Goals as goal

pub returns-then-room-first : goal.returns-then-room-first
returns-then-room-first c =
    part_none c.args.first c.args.count c.args.log.now c.args.log.ref_ptr (omega (arith, c.if-room-first.true))

pub returns-then-room-first-2 : goal.returns-then-room-first-2
returns-then-room-first-2 c =
    part_none c.args.first c.args.count c.args.log.now c.args.log.ref_ptr
    (omega (arith, c.if-room-first-2.true, c.if-room-first.false))

pub returns : goal.returns
returns c =
    part_cut c.args.first c.args.count c.args.log.now c.args.log.ref_ptr
    (omega (arith, c.if-room-first-2.false, c.if-room-first.false))
