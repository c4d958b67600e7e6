use Rattle.host.proofs.asked.counted_in.Goals as goal

pub returns : goal.returns
returns c =
    (cc, c.at_most_nine.ensures.1)
