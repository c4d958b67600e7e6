-- `reading::inner::read_from` meets its contract: the kind of the first index decides.
use Rattle.std.specs.Prelude.{Some}
use Rattle.words.proofs.Prelude.{ap, ◌∙◌, true, false, le-leb, lt-leb}
use Rattle.state_cache.specs.State.{numbers_in}
use Rattle.reading.proofs.Replying.{held_below, case_nothing, case_run}
use Rattle.reading.proofs.inner.read_from.Goals as goal

pub returns-in_default : goal.returns-in_default
returns-in_default c =
    case_nothing c.args.index c.args.from c.args.to c.requires.1.0 c.requires.1.1 c.in_default.ensures

pub returns-then-to-from : goal.returns-then-to-from
returns-then-to-from c =
    ap Some c.no_entries.ensures
    ∙ case_run c.args.index c.args.from c.args.to c.requires.1.0 c.requires.1.1
    (held_below (numbers_in c.args.index) c.args.from c.in-Some.entry c.in-Some.ensures) true
    (le-leb _ _ c.if-to-from.true)

pub returns : goal.returns
returns c =
    ap Some c.run_of.ensures
    ∙ case_run c.args.index c.args.from c.args.to c.requires.1.0 c.requires.1.1
    (held_below (numbers_in c.args.index) c.args.from c.in-Some.entry c.in-Some.ensures) false
    (lt-leb _ _ c.if-to-from.false)
