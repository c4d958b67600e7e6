-- `entry::sign_formed` meets its contract: each callee says its own test.
use Rattle.entry.specs.Sign.{sign_formed}
use Rattle.entry.proofs.sign_formed.Goals as goal

pub returns : goal.returns
unfolding sign_formed
returns c =
    cc
