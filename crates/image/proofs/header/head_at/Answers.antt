-- `image::header::head_at` meets its contract: each number from its bytes.
use Rattle.image.proofs.HeadLaws.{head_there_lem}
use Rattle.image.proofs.header.head_at.Goals as goal

pub returns : goal.returns
returns c =
    rw (head_there_lem c.args.s.now c.requires) cc
