use Rattle.internal_storage.specs.Replies.{flushed_is}
use Rattle.host.proofs.{Carry.carry_left}
use Rattle.host.specs.Plain.{maybe_flushed}
use Rattle.host.proofs.inner.kotuseraw_inner_flush_batch_and_get_entries.Goals as goal

pub returns : goal.returns
returns c =
    carry_left maybe_flushed flushed_is _ c.said-said.ensures c.flush_batch_and_get_entries.ensures
