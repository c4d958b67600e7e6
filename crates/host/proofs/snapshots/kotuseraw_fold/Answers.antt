use Rattle.host.proofs.{Carry.carry_out}
use Rattle.host.proofs.snapshots.kotuseraw_fold.Goals as goal

pub returns : goal.returns
returns c =
    carry_out _ c.said.ensures c.fold.ensures
