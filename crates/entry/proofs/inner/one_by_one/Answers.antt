-- `entry::inner::one_by_one` meets its contract: the entries passed and those that are left are together what is asked.
use Rattle.words.proofs.Prelude.{arith, ap, ◌∙◌, ◌+◌, Bool, ◌&&◌, drop}
use Rattle.words.proofs.{Alls.all_turn, Alls.all_end, CodedLaws.entries_length}
use Rattle.entry.specs.Change.{change_code, change_formed, entries_formed, entries_of}
use Rattle.entry.specs.Inner.{change_at}
use Rattle.entry.proofs.{ChangeLaws.entry_cons}
use Rattle.entry.proofs.inner.one_by_one.Goals as goal

pub loop-i-preserved : goal.loop-i-preserved
loop-i-preserved c =
    let es = entries_of c.args.n c.args.s.now in (
      omega arith,
      ap (λ (t : Bool). c.loop-i.ok && t && entries_formed (drop (c.loop-i.i + 1) es)) c.place_formed-ok.ensures
          ∙ all_turn change_formed es c.loop-i.i c.loop-i.ok _ c.loop-i.invariant.1 (change_at c.args.s.now c.loop-i.i)
          (entry_cons c.loop-i.i c.args.n c.args.s.now (omega arith)),
    )

pub returns : goal.returns
returns c =
    all_end change_formed (entries_of c.args.n c.args.s.now) c.loop-i.i c.loop-i.ok _ c.loop-i.invariant.1
    (omega (arith, entries_length change_code c.args.n c.args.s.now))
