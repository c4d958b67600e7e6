-- `backend::inner::step::put_at` meets its contract: refusal 1, or the run with the entries in it.
use Rattle.words.proofs.Prelude.{arith}
use Rattle.state_cache.specs.State.{raw}
use Rattle.entry.proofs.SliceLaws.{slice_whole}
use Rattle.backend.proofs.{Goings.put_refused, Goings.put_goes}
use Rattle.backend.proofs.inner.step.put_at.Goals as goal

pub returns-then-at-index-gt-ENTRIES : goal.returns-then-at-index-gt-ENTRIES
returns-then-at-index-gt-ENTRIES c =
    put_refused c.args.so_far.start (raw c.args.so_far.index c.args.log.now c.args.snapshot.now) c.requires.kept
    c.args.at c.args.entries.now c.if-at-index-gt-ENTRIES.true

pub splice-requires-clause-insert_in_bounds : goal.splice-requires-clause-insert_in_bounds
splice-requires-clause-insert_in_bounds c =
    let w = slice_whole c.args.entries.now c.requires.entries_value in
    omega (arith, c.if-at-index-gt-ENTRIES.false, c.requires.kept.log.long, c.requires.at_le_retained, w)

pub returns : goal.returns
returns c =
    rw c.with.ensures
    (put_goes c.args.so_far.start (raw c.args.so_far.index c.args.log.now c.args.snapshot.now) c.requires.kept c.args.at
    c.args.entries.now c.splice.new.s c.if-at-index-gt-ENTRIES.false c.requires.at_le_retained c.requires.entries_value
    c.splice.ensures)
