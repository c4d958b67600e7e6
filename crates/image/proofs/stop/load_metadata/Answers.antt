-- `image::stop::load_metadata` meets its contract.
use Rattle.words.proofs.Prelude.{arith, ◌+◌, ◌-◌}
use Rattle.image.proofs.Signs.{metadata_got}
use Rattle.image.proofs.stop.load_metadata.Goals as goal

pub returns : goal.returns
returns c =
    metadata_got c.args.s.now c.copy_from_slice.new.self c.args.at c.args.n (c.args.at + c.args.n - c.args.at)
    c.requires.n_le_most_metadata c.requires.n_in_bounds (omega arith) c.copy_from_slice.ensures.after
