-- `backend::inner::gather::put` meets its contract: whether there is room.
use Rattle.words.proofs.Prelude.{lt-ltb, le-ltb}
use Rattle.backend.specs.Inner.{put_of}
use Rattle.backend.proofs.inner.gather.put.Goals as goal

pub returns-then-list-lt-OPERATIONS : goal.returns-then-list-lt-OPERATIONS
unfolding put_of
returns-then-list-lt-OPERATIONS c = rw (lt-ltb _ _ c.if-list-lt-OPERATIONS.true)

pub returns : goal.returns
unfolding put_of
returns c = rw (le-ltb _ _ c.if-list-lt-OPERATIONS.false)
