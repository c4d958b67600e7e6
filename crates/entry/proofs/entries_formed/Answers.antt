-- `entry::entries_formed` meets its contract: the two tests, joined.
use Rattle.entry.specs.Change.{slice_formed}
use Rattle.entry.proofs.entries_formed.Goals as goal

pub returns : goal.returns
unfolding slice_formed
returns c =
    cc
