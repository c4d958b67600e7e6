-- `internal_storage::inner::flush::flush_batch_and_get_entries` meets its contract: the batch flushed.
use Rattle.state_cache.specs.State.{raw}
use Rattle.internal_storage.proofs.Effects.{flush_entries_run}
use Rattle.internal_storage.proofs.inner.flush.flush_batch_and_get_entries.Goals as goal

pub returns : goal.returns
returns c =
    flush_entries_run (raw c.args.index.now c.args.log.now c.args.snapshot.now) c.requires.okay
    c.flush_answer-flushed.result c.flush.new.index c.flush_answer-flushed.ensures c.flush.ensures
