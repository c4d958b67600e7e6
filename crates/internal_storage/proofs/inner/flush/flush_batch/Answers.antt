-- `internal_storage::inner::flush::flush_batch` meets its contract: the batch flushed.
use Rattle.state_cache.specs.State.{raw}
use Rattle.internal_storage.proofs.Effects.{flush_run}
use Rattle.internal_storage.proofs.inner.flush.flush_batch.Goals as goal

pub returns : goal.returns
returns c =
    flush_run (raw c.args.index.now c.args.log.now c.args.snapshot.now) c.requires.okay
    c.accepted.result c.flush.new.index c.flush.ensures c.accepted.ensures
