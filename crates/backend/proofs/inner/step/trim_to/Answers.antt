-- `backend::inner::step::trim_to` meets its contract: the entries below the index go.
use Rattle.state_cache.specs.State.{raw}
use Rattle.backend.proofs.{Goings.trim_goes}
use Rattle.backend.proofs.inner.step.trim_to.Goals as goal

pub returns : goal.returns
returns c =
    trim_goes c.args.so_far.start (raw c.args.so_far.index c.args.log.now c.args.snapshot.now) c.requires
    c.args.to.0 c.saturating_sub-below.result c.min-gone.result _ c.cut_out.new.s
    c.saturating_sub-below.ensures c.min-gone.ensures c.max.ensures c.cut_out.ensures
