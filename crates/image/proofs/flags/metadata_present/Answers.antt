-- `image::flags::metadata_present` meets its contract.
use Rattle.words.proofs.Prelude.{◌∙◌}
use Rattle.image.proofs.Masks.{bit_2}
use Rattle.image.proofs.flags.metadata_present.Goals as goal

pub returns : goal.returns
returns c =
    c.test.ensures ∙ bit_2 c.args.flags
