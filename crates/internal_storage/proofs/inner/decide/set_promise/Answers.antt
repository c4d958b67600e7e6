-- `internal_storage::inner::decide::set_promise` meets its contract: the promise set.
use Rattle.words.proofs.Prelude.{refl}
use Rattle.model.specs.Calls.{set_promise, malformed, further, reply_of}
use Rattle.state_cache.specs.State.{raw}
use Rattle.internal_storage.proofs.Effects.{quiet_stands, promised_stands}
use Rattle.internal_storage.proofs.inner.decide.set_promise.Goals as goal

pub returns : goal.returns
unfolding further malformed reply_of
returns c =
    let x = raw c.args.index.now c.args.log.now c.args.snapshot.now in
    quiet_stands x c.requires.okay
    (set_promise c.args.n_prom) refl refl tt _ refl (promised_stands x c.requires.okay c.args.n_prom)
