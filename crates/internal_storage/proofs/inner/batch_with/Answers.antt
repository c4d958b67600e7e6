-- `internal_storage::inner::batch_with` meets its contract: by whether the batch is flushed.
use Rattle.words.proofs.Prelude.{le-leb, lt-leb}
use Rattle.internal_storage.specs.Inner.{batched_with}
use Rattle.internal_storage.proofs.inner.batch_with.Goals as goal

pub returns-then-index-waiting : goal.returns-then-index-waiting
unfolding batched_with
returns-then-index-waiting c =
    rw (le-leb _ _ c.if-index-waiting.true, c.accepted.ensures)

pub returns : goal.returns
unfolding batched_with
returns c =
    rw (lt-leb _ _ c.if-index-waiting.false)
