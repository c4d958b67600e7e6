use Rattle.host.specs.Plain.{nothing}
use Rattle.host.proofs.{Carry.carry_left}
use Rattle.host.proofs.inner.kotuseraw_inner_set_promise.Goals as goal

pub returns : goal.returns
returns c =
    carry_left nothing (λ (u : Unit {0}). tt) _ c.said-said.ensures c.set_promise.ensures
