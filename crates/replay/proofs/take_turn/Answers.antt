-- `replay::take_turn` meets its contract: what waits is handed over, and what was read is a part of the input.
use Rattle.words.proofs.Prelude.{rules}
use Rattle.words.proofs.Prelude.{[], take}
use Rattle.state_cache.specs.State.{Raw, raw}
use Rattle.text.specs.{Lines.Lines, Lines.lines_from, Feeding.come}
use Rattle.replay.specs.Input.{Reached}
use Rattle.replay.proofs.{Inputs.handed_over}
use Rattle.std.proofs.lemmas.Result.{IfOk-weaker}
use Rattle.replay.proofs.take_turn.Goals as goal

pub returns-then-n-eq0 : goal.returns-then-n-eq0
unfolding lines_from
returns-then-n-eq0 c =
    let waits = take c.args.st.used c.args.out.now in
    record {
      len_le_input_line = search rules;
      by_index = λ (from : Raw) (ls : Lines) st. ([], handed_over from ls _ _ waits st);
    }

pub returns-clause-by_index : goal.returns-clause-by_index
returns-clause-by_index c =
    let st = c.args.st in
    let line = c.args.line.now in
    let waits = take st.used c.args.out.now in
    let new = c.take_part.new in
    IfOk-weaker _ _ _
    (λ fed (h : (from : Raw) (ls : Lines)
    → Reached from ls (raw st.index c.args.log.now c.args.snapshot.now) (come st.held.over st.held.len line) []
    → Reached from (lines_from ls (take c.in_ok-n.n c.read.new.buf)) (raw fed.index new.log new.snapshot)
    (come fed.held.over fed.held.len new.line) (take fed.used new.out)).
    λ (from : Raw) (ls : Lines) so_far. (_, h from ls (handed_over from ls _ _ waits so_far)))
    c.take_part.ensures.reached
