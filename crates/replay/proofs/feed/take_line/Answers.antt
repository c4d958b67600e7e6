-- `replay::feed::take_line` meets its contract.
use Rattle.words.proofs.Prelude.{arith, take}
use Rattle.std.proofs.lemmas.Result.{IfOk-weaker}
use Rattle.state_cache.specs.State.{Raw, raw}
use Rattle.text.specs.{Lines.Lines, Lines.line_ended, Lines.rest_with, Feeding.come}
use Rattle.replay.specs.Input.{Reached}
use Rattle.replay.proofs.{Inputs.kept}
use Rattle.replay.proofs.feed.take_line.Goals as goal

pub returns-then-ends-clause-reached : goal.returns-then-ends-clause-reached
returns-then-ends-clause-reached c =
    let keep = c.keep-s in
    let held = keep.result.held in
    let line = keep.new.line in
    let bytes = c.args.bytes.now in
    let new = c.finish.new in
    IfOk-weaker _ _ _
    (λ fed (h : (from : Raw) (ls : Lines)
    → Reached from ls (raw keep.result.index c.args.log.now c.args.snapshot.now)
    (come held.over held.len line) (take keep.result.used c.args.out.now)
    → Reached from (line_ended ls) (raw fed.index new.log new.snapshot)
    (come fed.held.over fed.held.len line) (take fed.used new.out)).
    λ (from : Raw) (ls : Lines) st.
    let k = kept from ls _ _ _ _ _ _ _ _ _ c.args.out.now bytes keep.ensures.len_in_bounds.2 keep.ensures.len_in_bounds.1 in
    rw c.if-ends.true (h from (rest_with bytes ls) (k c.requires.buffer keep.ensures.line_after st)))
    c.finish.ensures.reached

pub returns : goal.returns
returns c =
    let keep = c.keep-s in
    let bytes = c.args.bytes.now in record {
      len_in_bounds = (keep.ensures.len_in_bounds.0, omega (arith, keep.ensures.len_in_bounds.1, c.requires.waiting));
      reached = λ (from : Raw) (ls : Lines) st.
          let k = kept from ls _ _ _ _ _ _ _ _ _ c.args.out.now bytes keep.ensures.len_in_bounds.2 keep.ensures.len_in_bounds.1 in
          rw c.if-ends.false (k c.requires.buffer keep.ensures.line_after st);
      failed = tt;
    }
