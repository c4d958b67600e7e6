use Rattle.host.proofs.{Carry.carry_filled}
use Rattle.host.proofs.showing.kotuseraw_lookup_many.Goals as goal

pub returns : goal.returns
returns c =
    carry_filled _ c.said.ensures c.lookup_many.ensures
