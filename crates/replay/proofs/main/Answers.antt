-- `replay::main` is safe and ends, and keeps where the program stands: at each turn some input has come, and its lines
-- have been answered from the log that the program started from.
use Rattle.words.proofs.Prelude.{arith, sym, ap, ◌∙◌, [], ◌++◌}
use Rattle.state_cache.specs.{State.raw, declared.IndexRecord.IndexRecord}
use Rattle.text.specs.{Lines.no_line, Lines.lines_of}
use Rattle.text.proofs.LineLaws.{lines-append}
use Rattle.replay.proofs.{Inputs.begun, Starts.begins}
use Rattle.replay.proofs.main.Goals as goal

pub loop-init : goal.loop-init
loop-init c =
    let e = c.start-s.ensures in
    let made = c.begin-begun in
    let index = c.in-Some.index in
    let same = ap (λ (i : IndexRecord). raw i made.new.log made.new.snapshot) e.0 in
    let told = sym c.in-Some.is ∙ c.in_ok-start.ensures in (
      omega (arith, e.1, e.3),
      record {
        from = raw index made.new.log made.new.snapshot;
        begins = begins made.new.log made.new.snapshot index c.argument-given.result made.result told made.ensures;
        input = [];
        reached = begun _ _ _ _ _ _ _ same e.1 e.2 e.3;
      },
    )

pub loop-preserved : goal.loop-preserved
loop-preserved c =
    let so_far = c.loop.invariant.1 in
    let more = c.in_ok-s.ensures.by_index so_far.from (lines_of so_far.input) so_far.reached in (
      c.in_ok-s.ensures.len_le_input_line,
      record {
        from = so_far.from;
        begins = so_far.begins;
        input = so_far.input ++ more.0;
        reached = rw (lines-append no_line so_far.input more.0) more.1;
      },
    )
