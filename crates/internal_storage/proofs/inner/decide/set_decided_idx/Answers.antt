-- `internal_storage::inner::decide::set_decided_idx` meets its contract: by the numbers.
use Rattle.state_cache.specs.State.{raw}
use Rattle.internal_storage.proofs.Effects.{decide_run}
use Rattle.internal_storage.proofs.inner.decide.set_decided_idx.Goals as goal

pub returns : goal.returns
returns c =
    decide_run (raw c.args.index.now c.args.log.now c.args.snapshot.now) c.requires.okay c.args.idx _ _ c.decide_at.ensures
