-- `replay::feed::end` meets its contract: the last line has a byte exactly if one has come.
use Rattle.words.proofs.Prelude.{take}
use Rattle.std.proofs.lemmas.Result.{IfOk-weaker}
use Rattle.state_cache.specs.State.{Raw, raw}
use Rattle.text.specs.{Lines.Lines, Lines.line_ended, Feeding.come}
use Rattle.replay.specs.Input.{Reached}
use Rattle.replay.proofs.{Inputs.last_line, Inputs.no_last_line}
use Rattle.replay.proofs.feed.end.Goals as goal

pub returns-then-held-clause-reached : goal.returns-then-held-clause-reached
returns-then-held-clause-reached c =
    let st = c.args.st in
    let line = c.args.line.now in
    let x = raw st.index c.args.log.now c.args.snapshot.now in
    let came = come st.held.over st.held.len line in
    let waits = take st.used c.args.out.now in
    let new = c.finish.new in
    IfOk-weaker _ _ _
    (λ fed (h : (from : Raw) (ls : Lines) → Reached from ls x came waits
    → Reached from (line_ended ls) (raw fed.index new.log new.snapshot)
    (come fed.held.over fed.held.len line) (take fed.used new.out)).
    λ (from : Raw) (ls : Lines) so_far.
    let ends = last_line ls st.held.len line from x waits st.held.over so_far c.if-held.true in
    rw (ends c.requires.inside) (h from ls so_far))
    c.finish.ensures.reached

pub returns : goal.returns
returns c =
    let x = raw c.args.st.index c.args.log.now c.args.snapshot.now in
    let waits = take c.args.st.used c.args.out.now in record {
      used_le_out_room = c.requires.waiting;
      reached = λ (from : Raw) (ls : Lines) st.
          let len = c.args.st.held.len in
          rw (no_last_line ls len c.args.line.now from x waits c.args.st.held.over st c.if-held.false) st;
      failed = tt;
    }
