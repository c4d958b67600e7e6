-- `backend::inner::list::judge_last` meets its contract: refusal 9, then 12.
use Rattle.words.proofs.Prelude.{◌≡◌, sym, ◌∙◌, ◌+◌, ltb, ne_eqb}
use Rattle.entry.specs.Limits.{last_index}
use Rattle.model.specs.Numbers.{accepted_of}
use Rattle.state_cache.specs.State.{raw, numbers_in}
use Rattle.state_cache.proofs.Small.{from_bool-one_if}
use Rattle.backend.proofs.Lasts.{past_sum, formed_numbers, last_past, last_apart, last_unformed, last_stands}
use Rattle.backend.proofs.inner.list.judge_last.Goals as goal
use Rattle.backend.proofs.inner.list.judge_last.Goals.{After-past_last}

-- the sum as it is judged: compacted, the retained entries, and the stop-sign and the batch after them
past : (p : After-past_last) → let x = p.args.after.index in
    p.past_last.result ≡ ltb last_index (accepted_of (numbers_in x) + x.batched)
past p =
    let x = p.args.after.index in
    past_sum x p.from.result (p.from.ensures ∙ from_bool-one_if x.stop_held) _ p.past_last.ensures

pub returns-then-past_last : goal.returns-then-past_last
returns-then-past_last c =
    last_past (numbers_in c.args.before) c.args.after.start (raw c.args.after.index c.args.log.now c.args.snapshot.now)
    c.requires.kept c.accepted-last.result c.accepted-last.ensures
    (sym (past (goal.at.returns-then-past_last c).After-past_last) ∙ c.if-past_last.true)

pub returns-then-after-index : goal.returns-then-after-index
returns-then-after-index c =
    last_apart (numbers_in c.args.before) c.args.after.start (raw c.args.after.index c.args.log.now c.args.snapshot.now)
    c.requires.kept (sym (past (goal.at.returns-then-after-index c).After-past_last) ∙ c.if-past_last.false)
    (ne_eqb _ _ c.if-after-index.true)

pub returns-then-not-numbers_formed : goal.returns-then-not-numbers_formed
returns-then-not-numbers_formed c =
    let r = raw c.args.after.index c.args.log.now c.args.snapshot.now in
    last_unformed (numbers_in c.args.before) c.args.after.start r c.requires.kept
    (sym (past (goal.at.returns-then-not-numbers_formed c).After-past_last) ∙ c.if-past_last.false)
    (sym (formed_numbers r c.requires.kept) ∙ sym c.numbers_formed.ensures ∙ c.if-not-numbers_formed.true)

pub returns : goal.returns
returns c =
    let r = raw c.args.after.index c.args.log.now c.args.snapshot.now in
    last_stands (numbers_in c.args.before) c.args.after.start r c.requires.kept
    (sym (past (goal.at.returns c).After-past_last) ∙ c.if-past_last.false) c.if-after-index.false
    (sym (formed_numbers r c.requires.kept) ∙ sym c.numbers_formed.ensures ∙ c.if-not-numbers_formed.false)
