use Rattle.entry.specs.Reply.{known_is}
use Rattle.host.proofs.{Carry.carry_told}
use Rattle.host.specs.Plain.{a_word}
use Rattle.host.proofs.showing.kotuseraw_lookup.Goals as goal

pub returns : goal.returns
returns c =
    carry_told a_word known_is _ c.said.ensures c.lookup.ensures
