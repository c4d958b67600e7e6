-- `compaction::inner::create_at` meets its contract: refusals 3, 2 and 16, then what the fold comes to.
use Rattle.std.proofs.lemmas.Map.Keys.{ge_from_not_lt}
use Rattle.words.proofs.Prelude.{arith, sym, ◌∙◌, ◌+◌, ◌≤◌, ltb-true, some}
use Rattle.state_cache.specs.State.{raw, numbers_in}
use Rattle.compaction.proofs.{Moving.target_in, Folding.fold_needs, Creates.target_from, Creates.create_below}
use Rattle.compaction.proofs.{Creates.create_above, Creates.create_holed, Creates.create_folds, Creates.index_lt}
use Rattle.compaction.proofs.inner.create_at.Goals as goal
use Rattle.compaction.proofs.inner.create_at.Goals.{Else-lt, After-target-to}

low : (k : Else-lt) → k.args.index.compacted.0 ≤ k.args.idx.0
low k = ge_from_not_lt k.args.idx.0 k.args.index.compacted.0 (sym k.lt.ensures ∙ k.if-lt.false)

within : (k : After-target-to) → k.target-to.result ≤ k.args.index.compacted.0 + k.args.index.retained
within k =
    omega (
      arith,
      k.target-to.ensures,
      target_in (raw k.args.index k.args.log.now k.args.snapshot.now) k.requires.0.okay (some k.args.idx.0),
    )

pub returns-then-lt : goal.returns-then-lt
returns-then-lt c =
    create_below (raw c.args.index c.args.log.now c.args.snapshot.now) _ _ c.requires.0.okay
    (ltb-true _ _ (sym (index_lt c.args.idx.0 c.args.index.compacted.0) ∙ sym c.lt.ensures ∙ c.if-lt.true))

pub returns-then-past_decided : goal.returns-then-past_decided
returns-then-past_decided c =
    create_above (raw c.args.index c.args.log.now c.args.snapshot.now) _ _ c.requires.0.okay
    (low (goal.at.returns-then-past_decided c).Else-lt)
    (sym c.past_decided.ensures ∙ c.if-past_decided.true)

pub returns-then-holed : goal.returns-then-holed
returns-then-holed c =
    create_holed (raw c.args.index c.args.log.now c.args.snapshot.now) _ _ c.requires.0.okay
    (low (goal.at.returns-then-holed c).Else-lt)
    (sym c.past_decided.ensures ∙ c.if-past_decided.false) (sym c.hole-holed.ensures ∙ c.if-holed.true)

pub overflow_sub-n : goal.overflow_sub-n
overflow_sub-n c =
    omega (
      arith,
      c.target-to.ensures,
      target_from c.args.idx.0 (numbers_in c.args.index) c.requires.0.numbers (low (goal.at.overflow_sub-n c).Else-lt),
    )

pub fold_aside-requires : goal.fold_aside-requires
fold_aside-requires c =
    fold_needs (raw c.args.index c.args.log.now c.args.snapshot.now) c.requires.0.okay _
    (within (goal.at.fold_aside-requires c).After-target-to) _ c.requires.1

pub returns : goal.returns
returns c =
    c.fold_aside.ensures
    ∙ create_folds (raw c.args.index c.args.log.now c.args.snapshot.now) _ _ c.requires.0.okay
    (low (goal.at.returns c).Else-lt)
    (sym c.past_decided.ensures ∙ c.if-past_decided.false) (sym c.hole-holed.ensures ∙ c.if-holed.false) _
    c.target-to.ensures (within (goal.at.returns c).After-target-to)
