-- `entry::inner::lent` meets its contract: by what is said, and by whether a place is in form.
use Rattle.entry.proofs.ChangeLaws.{lent_removed, lent_place, lent_none}
use Rattle.entry.proofs.inner.lent.Goals as goal

pub returns-in_default : goal.returns-in_default
returns-in_default c =
    rw c.in_default.is (lent_removed c.args.key)

pub returns-then-place-lt-PLACES : goal.returns-then-place-lt-PLACES
returns-then-place-lt-PLACES c =
    rw c.in-Place.is (lent_place c.args.key _ c.if-place-lt-PLACES.true)

pub returns : goal.returns
returns c =
    rw c.in-Place.is (lent_none c.args.key _ c.if-place-lt-PLACES.false)
