use Rattle.internal_storage.specs.Replies.{flushed_is}
use Rattle.host.proofs.{Carry.carry}
use Rattle.host.specs.Plain.{maybe_flushed}
use Rattle.host.proofs.log.kotuseraw_append_stopsign.Goals as goal

pub returns : goal.returns
returns c =
    carry maybe_flushed flushed_is _ _ c.reply.ensures c.append_stopsign.ensures
