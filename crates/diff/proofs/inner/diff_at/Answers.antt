-- `diff::inner::diff_at` meets its contract: a delta past compacted, else nothing or the fold onto the held snapshot.
use Rattle.words.proofs.Prelude.{arith, sym, ◌∙◌, true, false}
use Rattle.entry.proofs.RefusalLaws.{passed_up}
use Rattle.state_cache.specs.State.{raw, numbers_in}
use Rattle.compaction.proofs.Folding.{decided_low, decided_high, fold_needs}
use Rattle.diff.proofs.{Giving.start_low, Giving.part_inside, Giving.part_shows, Telling.Told, Telling.fold_told}
use Rattle.diff.proofs.Telling.{diff_nothing, diff_holed, complete_wrote, delta_wrote}
use Rattle.diff.proofs.inner.diff_at.Goals as goal
use Rattle.diff.proofs.inner.diff_at.Goals.{After-fold_part, After-fold_aside}

-- either fold's answer as a diff's
delta : (k : After-fold_part)
    → Told (raw k.args.index k.args.log.now k.args.snapshot.now) k.args.from.0 k.args.out.now
    (fold_told true (record { 0 = k.log_decided-last.result }) k.fold_part.result) k.fold_part.new.out true
delta k =
    delta_wrote _ _ _ k.requires.0.okay _ k.log_decided-last.ensures k.if-low-from.true _ k.min-start.ensures _ _
    k.fold_part.ensures

complete : (k : After-fold_aside)
    → Told (raw k.args.index k.args.log.now k.args.snapshot.now) k.args.from.0 k.args.out.now
    (fold_told false (record { 0 = k.log_decided-last.result }) k.fold_aside.result) k.fold_aside.new.out true
complete k =
    complete_wrote _ _ _ k.requires.0.okay _ k.log_decided-last.ensures k.if-low-from.false k.if-not-index-low.false
    (sym k.hole.ensures ∙ k.if-hole.false) _ _ k.fold_aside.ensures

pub overflow_sub-start : goal.overflow_sub-start
overflow_sub-start c =
    omega (
      arith,
      start_low (raw c.args.index c.args.log.now c.args.snapshot.now) c.requires.0.okay c.args.from.0 _
          c.log_decided-last.ensures c.if-low-from.true _ c.min-start.ensures,
      c.min-start.ensures,
    )

pub fold_part-requires : goal.fold_part-requires
fold_part-requires c =
    let r = raw c.args.index c.args.log.now c.args.snapshot.now in (
      part_inside r c.requires.0.okay c.args.from.0 _ c.log_decided-last.ensures c.if-low-from.true _
          c.min-start.ensures,
      (
        part_shows r c.requires.0.okay c.args.from.0 _ c.log_decided-last.ensures c.if-low-from.true _
            c.min-start.ensures,
        c.requires.1,
      ),
    )

pub returns-in_err-keys : goal.returns-in_err-keys
returns-in_err-keys c =
    let p = delta (goal.at.returns-in_err-keys c).After-fold_part in
    record {
      result_after = rw (passed_up c.from_residual.result _ c.from_residual.ensures.1) (rw c.in_err-keys.was at p.0);
      out_after = p.1;
    }

pub returns-then-low-from : goal.returns-then-low-from
returns-then-low-from c =
    let p = delta (goal.at.returns-then-low-from c).After-fold_part in
    record { result_after = rw c.in_ok-keys.was at p.0; out_after = p.1 }

pub returns-then-not-index-low : goal.returns-then-not-index-low
returns-then-not-index-low c =
    let p = diff_nothing (raw c.args.index c.args.log.now c.args.snapshot.now) _ _ c.requires.0.okay _
    c.log_decided-last.ensures c.if-low-from.false c.if-not-index-low.true in
    record { result_after = p.0; out_after = p.1 }

pub returns-then-hole : goal.returns-then-hole
returns-then-hole c =
    let p = diff_holed (raw c.args.index c.args.log.now c.args.snapshot.now) _ _ c.requires.0.okay _
    c.log_decided-last.ensures c.if-low-from.false c.if-not-index-low.false
    (sym c.hole.ensures ∙ c.if-hole.true) in
    record { result_after = p.0; out_after = p.1 }

pub overflow_sub-last-2 : goal.overflow_sub-last-2
overflow_sub-last-2 c =
    omega (arith, decided_low (numbers_in c.args.index) c.requires.0.numbers _ c.log_decided-last.ensures)

pub fold_aside-requires : goal.fold_aside-requires
fold_aside-requires c =
    fold_needs (raw c.args.index c.args.log.now c.args.snapshot.now) c.requires.0.okay _
    (decided_high (numbers_in c.args.index) c.requires.0.numbers _ c.log_decided-last.ensures) _ c.requires.1

pub returns-in_err-keys-2 : goal.returns-in_err-keys-2
returns-in_err-keys-2 c =
    let p = complete (goal.at.returns-in_err-keys-2 c).After-fold_aside in
    record {
      result_after =
          rw (passed_up c.from_residual-in_err-keys-2.result _ c.from_residual-in_err-keys-2.ensures.1)
          (rw c.in_err-keys-2.was at p.0);
      out_after = p.1;
    }

pub returns : goal.returns
returns c =
    let p = complete (goal.at.returns c).After-fold_aside in
    record { result_after = rw c.in_ok-keys-2.was at p.0; out_after = p.1 }
