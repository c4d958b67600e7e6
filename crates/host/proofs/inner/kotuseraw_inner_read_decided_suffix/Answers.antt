use Rattle.state_cache.specs.State.{raw}
use Rattle.host.proofs.inner.kotuseraw_inner_read_decided_suffix.Goals as goal

pub returns : goal.returns
returns c =
    rw (← c.read_decided_suffix_reply.ensures) (c.read_said.ensures (raw c.args.index c.args.log.now c.args.snapshot.now))
