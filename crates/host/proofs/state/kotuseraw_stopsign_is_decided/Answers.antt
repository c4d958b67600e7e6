use Rattle.words.proofs.Prelude.{Bool}
use Rattle.host.proofs.{Carry.carry_told}
use Rattle.host.specs.Plain.{a_flag}
use Rattle.host.proofs.state.kotuseraw_stopsign_is_decided.Goals as goal

pub returns : goal.returns
returns c =
    carry_told a_flag (λ (b : Bool). b) _ c.said.ensures c.stopsign_is_decided.ensures
