-- `reading::inner::look` meets its contract: what the newest of the entries says, or what the snapshot does.
use Rattle.words.proofs.Prelude.{arith}
use Rattle.state_cache.specs.State.{raw}
use Rattle.reading.proofs.Looking.{decided_low, look_inside, look_told, look_snapshot}
use Rattle.reading.proofs.inner.look.Goals as goal

pub overflow_sub-n : goal.overflow_sub-n
overflow_sub-n c =
    omega (
      arith,
      c.log_decided-decided.ensures,
      decided_low (raw c.args.index c.args.log.now c.args.snapshot.now) c.requires,
    )

pub newest_word-requires : goal.newest_word-requires
newest_word-requires c =
    look_inside (raw c.args.index c.args.log.now c.args.snapshot.now) c.requires c.args.key
    c.log_decided-decided.result c.log_decided-decided.ensures

pub returns-in-None : goal.returns-in-None
returns-in-None c =
    look_snapshot (raw c.args.index c.args.log.now c.args.snapshot.now) c.requires c.args.key
    c.log_decided-decided.result c.log_decided-decided.ensures c.in-None.ensures c.look_up.result c.look_up.ensures

pub returns-in_default : goal.returns-in_default
returns-in_default c =
    look_told (raw c.args.index c.args.log.now c.args.snapshot.now) c.requires c.args.key c.log_decided-decided.result
    c.log_decided-decided.ensures c.newest_word.result c.newest_word.ensures c.in_default.not-None
