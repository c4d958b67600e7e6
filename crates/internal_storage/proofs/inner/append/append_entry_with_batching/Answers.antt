-- `internal_storage::inner::append::append_entry_with_batching` meets its contract: the append of its words.
use Rattle.words.proofs.Prelude.{◌∙◌}
use Rattle.entry.specs.Change.{said_is}
use Rattle.state_cache.specs.State.{raw}
use Rattle.internal_storage.proofs.Arguments.{one_run}
use Rattle.internal_storage.proofs.inner.append.append_entry_with_batching.Goals as goal

pub returns : goal.returns
returns c =
    c.append_entries_with_batching.ensures
    ∙ one_run (record { key = c.args.key; said = said_is c.args.said }) _ c.lent-words.ensures
    (raw c.args.index.now c.args.log.now c.args.snapshot.now)
