use Rattle.host.proofs.asked.known_all.Goals as goal

pub returns : goal.returns
returns c =
    cc
