-- `compaction::inner::hold` meets its contract: a trim clears, a snapshot folds where there is no hole.
use Rattle.words.proofs.Prelude.{arith, refl, sym, ap, ◌∙◌}
use Rattle.words.specs.{Coded.entries_at, All.all_of}
use Rattle.words.proofs.Laws.{cleared}
use Rattle.entry.specs.{Limits.snapshot_words, declared.Compaction.Compaction}
use Rattle.state_cache.specs.State.{raw}
use Rattle.compaction.specs.Inner.{held_written}
use Rattle.compaction.proofs.{Folding.fold_needs, Holding.hold_none, Holding.hold_holed, Holding.hold_fold}
use Rattle.compaction.proofs.inner.hold.Goals as goal

pub returns-then-hole : goal.returns-then-hole
returns-then-hole c =
    let r = raw c.args.index c.args.log.now c.args.snapshot.now in
    hold_holed r c.args.to c.requires.0.okay (sym c.hole.ensures ∙ c.if-hole.true)
    ∙ ap (λ (w : Compaction). held_written w c.args.to r) (sym c.in-Snapshot.is)

pub fold_over-requires : goal.fold_over-requires
unfolding entries_at all_of
fold_over-requires c = (
  fold_needs (raw c.args.index c.args.log.now c.args.snapshot.now) c.requires.0.okay c.args.to c.requires.1.within
      c.args.snapshot.now c.requires.0.snapshot.laid.long,
  record { inside = omega arith; sound = refl },
)

pub returns-in-Trim : goal.returns-in-Trim
returns-in-Trim c =
    let r = raw c.args.index c.args.log.now c.args.snapshot.now in
    hold_none r c.args.to _
    (c.clear.ensures ∙ cleared snapshot_words c.args.snapshot.now c.requires.0.snapshot.laid.long)
    ∙ ap (λ (w : Compaction). held_written w c.args.to r) (sym c.in-Trim.is)

pub returns-else-hole : goal.returns-else-hole
returns-else-hole c =
    let r = raw c.args.index c.args.log.now c.args.snapshot.now in
    c.fold_over.ensures
    ∙ hold_fold r c.args.to c.requires.0.okay (sym c.hole.ensures ∙ c.if-hole.false) c.requires.1.within
    ∙ ap (λ (w : Compaction). held_written w c.args.to r) (sym c.in-Snapshot.is)
