-- `replay::file::fresh` meets its contract: the arrays are as long as a log's slices.
use Rattle.words.proofs.Prelude.{rules, ◌≡◌, refl, length}
use Rattle.entry.specs.Limits.{log_words, snapshot_words}
use Rattle.replay.proofs.Starts.{fresh_made}
use Rattle.replay.proofs.file.fresh.Goals as goal

pub unwrap-requires : goal.unwrap-requires
unwrap-requires c =
    let log : length c.args.log.now ≡ log_words = search rules in
    let snapshot : length c.args.snapshot.now ≡ snapshot_words = search rules in
    let made = fresh_made c.args.log.now c.args.snapshot.now _ _ log snapshot c.fresh.result c.fresh.ensures in
    rw made.1 refl

pub returns : goal.returns
returns c =
    let log : length c.args.log.now ≡ log_words = search rules in
    let snapshot : length c.args.snapshot.now ≡ snapshot_words = search rules in
    let made = fresh_made c.args.log.now c.args.snapshot.now _ _ log snapshot c.fresh.result c.fresh.ensures in
    let same : c.unwrap.result ≡ made.0 = cc (made.1, c.unwrap.ensures) in
    rw same made.2
