use Rattle.host.proofs.{Carry.carry_filled}
use Rattle.host.proofs.inner.kotuseraw_inner_lookup_many.Goals as goal

pub returns : goal.returns
returns c =
    carry_filled _ c.said.ensures c.look_many.ensures
