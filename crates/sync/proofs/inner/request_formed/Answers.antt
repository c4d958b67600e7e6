-- `sync::inner::request_formed` meets its contract: the tests are joined as the definition joins them.
use Rattle.words.proofs.Prelude.{◌≡◌, rules, and-true}
use Rattle.entry.specs.Sign.{sign_formed}
use Rattle.model.specs.Log.{if_given}
use Rattle.internal_storage.specs.Replies.{sign_is}
use Rattle.sync.specs.Requests.{lent_whole, request_formed}
use Rattle.sync.proofs.Checking.{none_is}
use Rattle.sync.proofs.inner.request_formed.Goals as goal
use Rattle.sync.proofs.inner.request_formed.Goals.{After-is_none}

stop_fine : (e : After-is_none) → e.is_none_or-stop.result ≡ if_given sign_formed (sign_is e.in-Some.part.stopsign)
stop_fine e = search rules

pub returns-in_default : goal.returns-in_default
unfolding request_formed lent_whole
returns-in_default c =
    rw c.in_default.is (simp and-true)

pub returns : goal.returns
unfolding request_formed lent_whole
returns c =
    rw (
      c.in-Some.is,
      stop_fine (goal.at.returns c).After-is_none,
      none_is _ _ c.is_none.ensures,
      c.snapshot_formed-keys.ensures,
      c.places_formed-fine.ensures,
    )
