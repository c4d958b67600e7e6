use Rattle.state_cache.specs.Run.{index_at}
use Rattle.host.proofs.{Carry.carry}
use Rattle.host.specs.Plain.{a_number}
use Rattle.host.proofs.state.kotuseraw_load_cache.Goals as goal

pub returns : goal.returns
returns c =
    carry a_number index_at _ _ c.reply.ensures c.load_cache.ensures
