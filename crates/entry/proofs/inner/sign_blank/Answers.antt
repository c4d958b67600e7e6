-- `entry::inner::sign_blank` meets its contract: by the derived equality.
use Rattle.words.proofs.Prelude.{◌∙◌}
use Rattle.entry.proofs.SignLaws.{same_none}
use Rattle.entry.proofs.inner.sign_blank.Goals as goal

pub returns : goal.returns
returns c =
    rw c.no_sign.ensures at c.eq.ensures ∙ same_none c.args.s
