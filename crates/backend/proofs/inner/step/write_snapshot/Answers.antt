-- `backend::inner::step::write_snapshot` meets its contract: a copy, or zeros over all.
use Rattle.words.proofs.Prelude.{◌∙◌}
use Rattle.words.proofs.Laws.{cleared}
use Rattle.entry.specs.Limits.{snapshot_words}
use Rattle.backend.proofs.inner.step.write_snapshot.Goals as goal

pub returns-else-given : goal.returns-else-given
returns-else-given c =
    rw c.if-given.false (c.clear.ensures ∙ cleared snapshot_words c.args.snapshot.now c.requires.snapshot_len)
