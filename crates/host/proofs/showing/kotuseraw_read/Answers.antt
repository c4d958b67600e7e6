use Rattle.state_cache.specs.State.{raw}
use Rattle.host.proofs.showing.kotuseraw_read.Goals as goal

pub returns : goal.returns
returns c =
    cc (c.read_said.ensures (raw c.args.index c.args.log.now c.args.snapshot.now))
