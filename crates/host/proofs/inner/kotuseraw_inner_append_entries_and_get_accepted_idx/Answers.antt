use Rattle.internal_storage.specs.Replies.{maybe_at}
use Rattle.host.proofs.Carry.{carry_left}
use Rattle.host.specs.Plain.{maybe_number}
use Rattle.host.proofs.inner.kotuseraw_inner_append_entries_and_get_accepted_idx.Goals as goal

pub returns : goal.returns
returns c =
    carry_left maybe_number maybe_at _ c.said-said.ensures
    c.append_entries_and_get_accepted_idx.ensures
