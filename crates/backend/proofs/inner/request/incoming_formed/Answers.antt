-- `backend::inner::request::incoming_formed` meets its contract: both tests joined.
use Rattle.backend.specs.Ops.{incoming_formed}
use Rattle.backend.proofs.inner.request.incoming_formed.Goals as goal

pub returns : goal.returns
unfolding incoming_formed
returns c = cc
