-- `image::walk::record_at` meets its contract: each kind's own.
use Rattle.words.proofs.Prelude.{sym, ◌∙◌}
use Rattle.image.proofs.ChangeSteps.{stop_absent, stop_present}
use Rattle.image.proofs.walk.record_at.Goals as goal

pub returns-in_ok-size-in-Stop : goal.returns-in_ok-size-in-Stop
returns-in_ok-size-in-Stop c =
    rw c.in-Stop.is (stop_present c.args.s.now c.args.at c.args.above _ _
    (sym c.in_ok-size-in-Stop.was ∙ c.stop_at.ensures))

pub returns-in_err-size-in-Stop : goal.returns-in_err-size-in-Stop
returns-in_err-size-in-Stop c =
    rw c.in-Stop.is (c.from_residual.ensures
    ∙ stop_absent c.args.s.now c.args.at c.args.above _ (sym c.in_err-size-in-Stop.was ∙ c.stop_at.ensures))
