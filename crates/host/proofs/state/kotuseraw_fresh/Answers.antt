use Rattle.words.proofs.Prelude.{ap, ◌∙◌}
use Rattle.state_cache.specs.declared.IndexRecord.{IndexRecord}
use Rattle.host.specs.Plain.{reply_by}
use Rattle.host.proofs.{Carry.carry_settled}
use Rattle.host.proofs.state.kotuseraw_fresh.Goals as goal

pub returns : goal.returns
returns c =
    carry_settled _ _ (c.settled.ensures ∙ ap (λ (i : IndexRecord). reply_by i c.fresh.result) c.fresh_index.ensures)
    c.fresh.ensures
