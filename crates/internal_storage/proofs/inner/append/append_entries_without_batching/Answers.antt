-- `internal_storage::inner::append::append_entries_without_batching` meets its contract: refusal 11, then the append.
use Rattle.words.proofs.Prelude.{refl, sym, ◌∙◌}
use Rattle.entry.specs.Change.{entries_in}
use Rattle.model.specs.Calls.{append_now, malformed}
use Rattle.state_cache.specs.State.{raw}
use Rattle.internal_storage.proofs.Arguments.{slice_refused, slice-run, slice_appends}
use Rattle.internal_storage.proofs.inner.append.append_entries_without_batching.Goals as goal

pub returns-then-not-entries_formed : goal.returns-then-not-entries_formed
unfolding malformed
returns-then-not-entries_formed c =
    slice_refused (append_now (entries_in c.args.entries.now)) c.args.entries.now
    (raw c.args.index.now c.args.log.now c.args.snapshot.now) refl
    c.requires.okay (sym c.entries_formed.ensures ∙ c.if-not-entries_formed.true)

pub append_now_at-requires : goal.append_now_at-requires
append_now_at-requires c =
    slice_appends c.args.entries.now (raw c.args.index.now c.args.log.now c.args.snapshot.now) c.requires.okay
    (sym c.entries_formed.ensures ∙ c.if-not-entries_formed.false)

pub returns : goal.returns
returns c =
    c.append_now_at.ensures ∙ slice-run (append_now (entries_in c.args.entries.now)) c.args.entries.now
    (raw c.args.index.now c.args.log.now c.args.snapshot.now) (sym c.entries_formed.ensures ∙ c.if-not-entries_formed.false)
