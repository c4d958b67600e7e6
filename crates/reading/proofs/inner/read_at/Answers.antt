-- `reading::inner::read_at` meets its contract: the kind of the last index decides.
use Rattle.std.specs.Prelude.{Some}
use Rattle.words.proofs.Prelude.{arith, ap, ◌∙◌, ◌-◌}
use Rattle.std.proofs.Common.{inl, inr}
use Rattle.model.specs.Numbers.{end_of}
use Rattle.state_cache.specs.State.{numbers_in}
use Rattle.state_cache.proofs.Small.{end_le}
use Rattle.reading.specs.Inner.{EntryIs, run_of_none}
use Rattle.reading.specs.declared.inner.IndexEntry.TheVariants.{Compacted, Entry, StopSign}
use Rattle.reading.proofs.Replying.{case_zero, case_marker, case_past}
use Rattle.reading.proofs.inner.read_at.Goals as goal

pub returns-then-to-eq0 : goal.returns-then-to-eq0
returns-then-to-eq0 c = case_zero c.args.index c.args.from c.args.to c.if-to-eq0.true

pub returns-in_default : goal.returns-in_default
returns-in_default c = case_past c.args.index c.args.from c.args.to c.if-to-eq0.false c.in_default.ensures

pub read_from-requires : goal.read_from-requires
unfolding end_of
read_from-requires c = elim c.in-Entry.is [
  | inl e ↦
      let h : EntryIs (numbers_in c.args.index) (c.args.to - 1) Entry = rw e at c.in-Some.ensures in
      (c.requires, (omega (arith, h.0), omega (arith, h.1, end_le (numbers_in c.args.index), c.if-to-eq0.false)))
  | inr e ↦
      let h : EntryIs (numbers_in c.args.index) (c.args.to - 1) StopSign = rw e at c.in-Some.ensures in
      (c.requires, (omega (arith, h.0, c.if-to-eq0.false), omega (arith, h.1, c.if-to-eq0.false)))
]

pub returns-in-Compacted : goal.returns-in-Compacted
returns-in-Compacted c =
    let h : EntryIs (numbers_in c.args.index) (c.args.to - 1) Compacted = rw c.in-Compacted.is at c.in-Some.ensures in
    ap Some (c.no_entries.ensures ∙ ap (λ m. run_of_none (Some m)) c.compacted_marker.ensures)
    ∙ case_marker c.args.index c.args.from c.args.to c.if-to-eq0.false h
