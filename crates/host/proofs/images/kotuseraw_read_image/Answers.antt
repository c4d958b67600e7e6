use Rattle.words.proofs.Prelude.{ap, ◌∙◌}
use Rattle.entry.specs.declared.LogIndex.{LogIndex}
use Rattle.state_cache.specs.declared.IndexRecord.{IndexRecord}
use Rattle.host.specs.Plain.{reply_of}
use Rattle.state_cache.specs.Run.{index_at}
use Rattle.host.proofs.{Carry.carry}
use Rattle.host.specs.Plain.{a_number}
use Rattle.host.proofs.images.kotuseraw_read_image.Goals as goal

pub returns : goal.returns
returns c =
    carry a_number index_at _ _
    (c.reply.ensures ∙ ap (λ (x : IndexRecord). reply_of (λ (i : LogIndex). a_number i.0) x c.read.result)
    c.fresh_index.ensures) c.read.ensures
