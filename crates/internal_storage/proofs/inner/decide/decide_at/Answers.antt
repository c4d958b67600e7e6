-- `internal_storage::inner::decide::decide_at` meets its contract: each return takes the tests as far as it came.
use Rattle.words.proofs.Prelude.{refl, lt-ltb, le-ltb}
use Rattle.entry.proofs.GuardLaws.{clear_all, passing, stopping}
use Rattle.model.specs.Calls.{decide_guards}
use Rattle.internal_storage.proofs.Verdicts.{moves, stays}
use Rattle.internal_storage.proofs.inner.decide.decide_at.Goals as goal

pub returns-then-idx-decided : goal.returns-then-idx-decided
unfolding decide_guards
returns-then-idx-decided c =
    stays _ _ (stopping (lt-ltb _ _ c.if-idx-decided.true) refl)

pub returns-then-last-idx : goal.returns-then-last-idx
unfolding decide_guards
returns-then-last-idx c =
    stays _ _ (passing (le-ltb _ _ c.if-idx-decided.false)
    (stopping (rw (← c.accepted-last.ensures) (lt-ltb _ _ c.if-last-idx.true)) c.accepted-last.ensures))

pub returns : goal.returns
unfolding decide_guards
returns c =
    moves _ (passing (le-ltb _ _ c.if-idx-decided.false)
    (passing (rw (← c.accepted-last.ensures) (le-ltb _ _ c.if-last-idx.false)) clear_all))
