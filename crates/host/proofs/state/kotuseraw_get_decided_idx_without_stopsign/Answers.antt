use Rattle.state_cache.specs.Run.{index_at}
use Rattle.host.proofs.{Carry.carry_told}
use Rattle.host.specs.Plain.{a_number}
use Rattle.host.proofs.state.kotuseraw_get_decided_idx_without_stopsign.Goals as goal

pub returns : goal.returns
returns c =
    carry_told a_number index_at _ c.said.ensures c.get_decided_idx_without_stopsign.ensures
