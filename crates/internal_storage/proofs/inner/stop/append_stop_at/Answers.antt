-- `internal_storage::inner::stop::append_stop_at` meets its contract: each return takes the tests as far as it came.
use Rattle.words.proofs.Prelude.{arith, ◌∙◌, ap₂, ◌+◌, ◌≤◌, ◌<◌, true, lt-ltb, le-ltb, Option}
use Rattle.entry.specs.{Guards.replied, Limits.last_index}
use Rattle.entry.proofs.GuardLaws.{clear_all, passing, stopping}
use Rattle.model.specs.{Numbers.accepted_of, Append.Flushed, Append.append_stop_guards}
use Rattle.state_cache.specs.{State.numbers_in, declared.IndexRecord.IndexRecord, Inner.with_stop}
use Rattle.internal_storage.specs.Inner.{indexed}
use Rattle.internal_storage.proofs.Verdicts.{moves, stays}
use Rattle.internal_storage.proofs.inner.stop.append_stop_at.Goals as goal

pub returns-then-index : goal.returns-then-index
unfolding append_stop_guards
returns-then-index c =
    stays _ _ (stopping c.if-index.true c.accepted-last.ensures)

pub returns-then-last-index-gt-LAST_INDEX : goal.returns-then-last-index-gt-LAST_INDEX
unfolding append_stop_guards
returns-then-last-index-gt-LAST_INDEX c =
    let h : last_index < accepted_of (numbers_in c.args.index.now) + c.args.index.now.batched + 1 =
    omega (arith, c.accepted-last.ensures, c.if-last-index-gt-LAST_INDEX.true) in
    stays _ _ (passing c.if-index.false (stopping (lt-ltb _ _ h) c.accepted-last.ensures))

pub returns : goal.returns
unfolding append_stop_guards
returns c =
    let h : accepted_of (numbers_in c.args.index.now) + c.args.index.now.batched + 1 ≤ last_index =
    omega (arith, c.accepted-last.ensures, c.if-last-index-gt-LAST_INDEX.false) in
    ap₂ (λ (x : Option Flushed) (y : IndexRecord). indexed (replied x) (with_stop true c.args.ss y))
    c.flush_answer-flushed.ensures c.flush.ensures
    ∙ moves _ (passing c.if-index.false (passing (le-ltb _ _ h) clear_all))
