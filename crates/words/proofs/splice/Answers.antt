-- `words::splice` meets its contract: its three calls are the three pastes of `splice_law`.
use Rattle.words.proofs.{Laws.splice_law}
use Rattle.words.proofs.splice.Goals as goal

pub returns : goal.returns
returns c =
    splice_law c.args.s.now c.args.insert.now c.copy_within.new.s c.copy_in.new.s c.clear.new.s
    c.args.used c.args.at c.args.cut
    c.requires.cut_bound c.requires.used_in_bounds c.requires.insert_in_bounds c.requires.s_value
    c.copy_within.ensures c.copy_in.ensures c.clear.ensures
