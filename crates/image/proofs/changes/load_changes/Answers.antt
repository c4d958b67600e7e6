-- `image::changes::load_changes` meets its contract.
use Rattle.words.proofs.Prelude.{rules}
use Rattle.words.proofs.Prelude.{◌≡◌, length, drop}
use Rattle.image.proofs.Loads.{load_cleared}
use Rattle.image.proofs.changes.load_changes.Goals as goal

pub returns : goal.returns
returns c =
    let l : length c.load_words.new.words ≡ length c.args.words.now = search rules in
    load_cleared c.args.n (drop c.args.at c.args.s.now) c.args.words.now
    c.load_words.new.words
    c.clear.new.s c.requires.width_in_bounds c.load_words.ensures l c.clear.ensures
