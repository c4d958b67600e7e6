-- `image::walk::key_at` meets its contract.
use Rattle.words.proofs.Prelude.{sym, ◌∙◌}
use Rattle.words.proofs.Prelude.{arith}
use Rattle.std.proofs.lemmas.Grind.{common_steps}
use Rattle.image.proofs.ChangeSteps.{key_absent, key_present}
use Rattle.image.proofs.walk.key_at.Goals as goal

pub returns-in_err-key : goal.returns-in_err-key
returns-in_err-key c =
    c.from_residual.ensures
    ∙ key_absent c.args.s.now c.args.at c.args.above (sym c.in_err-key.was ∙ c.change_at.ensures)

pub returns : goal.returns
returns c =
    c.then_some.ensures
    ∙ key_present c.args.s.now c.args.at c.args.above _ _ (sym c.in_ok-key.was ∙ c.change_at.ensures)
    (grind (arith, common_steps, c.is_none_or.ensures))
