-- `internal_storage::inner::stop::set_stopsign` meets its contract: refusal 11, then by the numbers.
use Rattle.words.proofs.Prelude.{◌≡◌, ◌∙◌, not, not-false, rules}
use Rattle.entry.specs.Sign.{sign_formed}
use Rattle.model.specs.Log.{if_given}
use Rattle.model.specs.Calls.{set_stop, malformed}
use Rattle.state_cache.specs.State.{raw}
use Rattle.state_cache.proofs.Runs.{bad_call}
use Rattle.internal_storage.specs.Replies.{sign_is}
use Rattle.internal_storage.proofs.Effects.{set_stop_run}
use Rattle.internal_storage.proofs.inner.stop.set_stopsign.Goals as goal
use Rattle.internal_storage.proofs.inner.stop.set_stopsign.Goals.{After-is_some_and}

bad : (e : After-is_some_and) → not (if_given sign_formed (sign_is e.args.ss)) ≡ e.is_some_and.result
bad e = search rules

pub returns-then-is_some_and : goal.returns-then-is_some_and
unfolding malformed
returns-then-is_some_and c =
    bad_call (set_stop (sign_is c.args.ss)) (raw c.args.index.now c.args.log.now c.args.snapshot.now) c.requires.okay
    (bad (goal.at.returns-then-is_some_and c).After-is_some_and ∙ c.if-is_some_and.true)

pub returns : goal.returns
returns c =
    set_stop_run (raw c.args.index.now c.args.log.now c.args.snapshot.now) c.requires.okay c.args.ss
    (not-false _ (bad (goal.at.returns c).After-is_some_and ∙ c.if-is_some_and.false))
    _ _ c.set_stop_at.ensures
