-- `internal_storage::inner::flush::flush_answer` meets its contract: by whether the batch is empty.
use Rattle.words.proofs.Prelude.{eq-eqb, ne_eqb}
use Rattle.internal_storage.specs.Inner.{flush_says}
use Rattle.internal_storage.proofs.Effects.{flush_answered}
use Rattle.internal_storage.proofs.inner.flush.flush_answer.Goals as goal

pub returns-then-waiting-eq0 : goal.returns-then-waiting-eq0
unfolding flush_says
returns-then-waiting-eq0 c =
    rw (eq-eqb _ _ c.if-waiting-eq0.true)

pub returns : goal.returns
returns c =
    flush_answered c.args.index c.flush.new.index c.accepted.result
    (ne_eqb _ _ c.if-waiting-eq0.false) c.flush.ensures c.accepted.ensures
