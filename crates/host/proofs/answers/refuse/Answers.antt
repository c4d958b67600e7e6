use Rattle.host.proofs.answers.refuse.Goals as goal

pub returns : goal.returns
returns c =
    cc
