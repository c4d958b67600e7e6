-- `image::flags::stop_sign_held` meets its contract.
use Rattle.words.proofs.Prelude.{◌∙◌}
use Rattle.image.proofs.Masks.{bit_1}
use Rattle.image.proofs.flags.stop_sign_held.Goals as goal

pub returns : goal.returns
returns c =
    c.test.ensures ∙ bit_1 c.args.flags
