-- `image::walk::entry_at` meets its contract.
use Rattle.words.proofs.Prelude.{sym, ◌∙◌}
use Rattle.image.proofs.ChangeSteps.{entry_absent, entry_present}
use Rattle.image.proofs.walk.entry_at.Goals as goal

pub returns-in_err-change_at : goal.returns-in_err-change_at
returns-in_err-change_at c =
    c.from_residual.ensures
    ∙ entry_absent c.args.s.now c.args.at c.args.above (sym c.in_err-change_at.was ∙ c.change_at.ensures)

pub returns : goal.returns
returns c =
    entry_present c.args.s.now c.args.at c.args.above _ (sym c.in_ok-change_at.was ∙ c.change_at.ensures)
