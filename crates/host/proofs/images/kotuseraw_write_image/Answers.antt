use Rattle.host.proofs.{Carry.carry_out}
use Rattle.host.proofs.images.kotuseraw_write_image.Goals as goal

pub returns : goal.returns
returns c =
    carry_out _ c.said.ensures c.write.ensures.out_after
