-- `internal_storage::inner::stop::append_stopsign` meets its contract: refusal 11, then by the numbers.
use Rattle.words.proofs.Prelude.{sym, ap, ◌∙◌, not}
use Rattle.model.specs.Calls.{append_stop, malformed}
use Rattle.state_cache.specs.State.{raw}
use Rattle.state_cache.proofs.Runs.{bad_call}
use Rattle.internal_storage.proofs.Effects.{append_stop_run}
use Rattle.internal_storage.proofs.inner.stop.append_stopsign.Goals as goal

pub returns-then-not-sign_formed : goal.returns-then-not-sign_formed
unfolding malformed
returns-then-not-sign_formed c =
    bad_call (append_stop c.args.ss) (raw c.args.index.now c.args.log.now c.args.snapshot.now) c.requires.okay
    (ap not (sym c.sign_formed.ensures ∙ c.if-not-sign_formed.true))

pub returns : goal.returns
returns c =
    append_stop_run (raw c.args.index.now c.args.log.now c.args.snapshot.now) c.requires.okay c.args.ss
    (sym c.sign_formed.ensures ∙ c.if-not-sign_formed.false) _ _ c.append_stop_at.ensures
