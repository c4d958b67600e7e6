-- `replay::feed::take_part` meets its contract: so many bytes of the part have come.
use Rattle.words.proofs.Prelude.{arith, ap, ℕ, ◌+◌, length-drop, length-take, take}
use Rattle.words.proofs.Prelude.{take_all}
use Rattle.state_cache.specs.State.{Raw}
use Rattle.text.specs.{Lines.Lines, Lines.lines_from}
use Rattle.text.proofs.LineLaws.{lines_part}
use Rattle.replay.proofs.feed.take_part.Goals as goal

pub loop-at-init : goal.loop-at-init
unfolding lines_from
loop-at-init c =
    (omega arith, λ (from : Raw) (ls : Lines) st. st)

pub loop-at-preserved : goal.loop-at-preserved
loop-at-preserved c =
    let part = c.args.part.now in
    let turn = c.loop-at in
    let gap = c.gap in
    let line = c.in_ok-s.ensures in
    let g = simp (length-take, length-drop) at gap.ensures.prefix_len.0 in (
      omega (arith, g, turn.invariant.0, line.len_in_bounds, c.take_line.auto, c.loop-at-test.true),
      λ (from : Raw) (ls : Lines) st.
          rw (lines_part ls part turn.at c.loop-at-test.true (turn.at + gap.result) (ap (λ (k : ℕ). turn.at + k) gap.ensures.value))
          (line.reached from (lines_from ls (take turn.at part)) (turn.invariant.1 from ls st)),
    )

pub returns : goal.returns
returns c =
    let part = c.args.part.now in
    let turn = c.loop-at in
    let whole = take_all turn.at part c.loop-at-test.false in
    record {
      len_in_bounds = omega arith;
      reached = λ (from : Raw) (ls : Lines) st. rw (← whole) (turn.invariant.1 from ls st);
      failed = tt;
    }
