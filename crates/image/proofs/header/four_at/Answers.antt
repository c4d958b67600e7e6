-- `image::header::four_at` meets its contract: four bytes are below 2^32.
use Rattle.words.proofs.Prelude.{arith}
use Rattle.image.proofs.Types.{part_below}
use Rattle.image.proofs.header.four_at.Goals as goal

pub overflow_cast-result : goal.overflow_cast-result
overflow_cast-result c =
    omega (
      arith,
      c.get_big.ensures,
      part_below c.args.s.now c.args.at 4 (omega arith)
          c.type_inv.s,
    )
