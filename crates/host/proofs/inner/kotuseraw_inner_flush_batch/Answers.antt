use Rattle.state_cache.specs.Run.{index_at}
use Rattle.host.proofs.{Carry.carry_left}
use Rattle.host.specs.Plain.{a_number}
use Rattle.host.proofs.inner.kotuseraw_inner_flush_batch.Goals as goal

pub returns : goal.returns
returns c =
    carry_left a_number index_at _ c.said-said.ensures c.flush_batch.ensures
