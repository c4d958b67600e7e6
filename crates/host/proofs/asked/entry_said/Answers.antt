use Rattle.words.proofs.Prelude.{rules}
use Rattle.host.proofs.asked.entry_said.Goals as goal

pub returns-then-removed : goal.returns-then-removed
returns-then-removed c =
    search rules

pub returns : goal.returns
returns c =
    cc
