-- `sync::inner::hold` meets its contract: by the snapshot's kind.
use Rattle.words.proofs.Prelude.{ap, rules}
use Rattle.std.specs.Prelude.{is_none}
use Rattle.state_cache.specs.State.{raw, numbers_in}
use Rattle.compaction.proofs.Folding.{decided_low, decided_high, fold_needs}
use Rattle.sync.proofs.Holding.{held_shows, hold_plain, hold_complete}
use Rattle.sync.proofs.inner.hold.Goals as goal

pub overflow_sub-n : goal.overflow_sub-n
overflow_sub-n c =
    decided_low (numbers_in c.args.index) c.requires.0.numbers c.log_decided-decided.result
    c.log_decided-decided.ensures

pub fold_over-requires : goal.fold_over-requires
fold_over-requires c = (
  fold_needs (raw c.args.index c.args.log.now c.args.snapshot.now) c.requires.0.okay c.log_decided-decided.result
      (decided_high (numbers_in c.args.index) c.requires.0.numbers c.log_decided-decided.result
      c.log_decided-decided.ensures) c.args.snapshot.now c.requires.0.snapshot.laid.long,
  held_shows c.args.keys c.args.incoming.now (c.requires.1 (ap is_none c.in-Some-Delta.is)),
)

pub returns-in-None : goal.returns-in-None
returns-in-None c =
    hold_plain c.args.kind (raw c.args.index c.args.log.now c.args.snapshot.now) c.requires.0 c.args.keys
    c.args.incoming.now
    c.in-None.is

pub returns-in-Some-Complete : goal.returns-in-Some-Complete
returns-in-Some-Complete c =
    hold_complete c.args.kind (raw c.args.index c.args.log.now c.args.snapshot.now) c.requires.0 c.args.keys
    c.args.incoming.now
    (search rules) (c.requires.1 (ap is_none c.in-Some-Complete.is)) _ c.copy_words.ensures
