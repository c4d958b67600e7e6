-- `reading::inner::look_many` meets its contract: refusal 11, or the replies filled in.
use Rattle.state_cache.specs.State.{raw}
use Rattle.reading.proofs.Filling.{many_malformed, many_stands}
use Rattle.reading.proofs.inner.look_many.Goals as goal

pub returns-then-asked-room : goal.returns-then-asked-room
returns-then-asked-room c =
    many_malformed (raw c.args.index c.args.log.now c.args.snapshot.now) c.args.keys.now c.args.replies.now
    c.requires.okay c.if-asked-room.true

pub returns : goal.returns
returns c =
    many_stands (raw c.args.index c.args.log.now c.args.snapshot.now) c.args.keys.now c.args.replies.now
    c.requires.okay c.if-asked-room.false _ c.fill.ensures
