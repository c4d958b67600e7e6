-- `text::inner::put_run` meets its contract: the lines that are put and those of the entries that are left make the
-- whole.
use Rattle.words.proofs.Prelude.{arith, ◌≡◌, refl, ap, ◌∙◌, ℕ, ◌+◌, ◌-◌, ltb, List, append-nil, ◌++◌}
use Rattle.words.proofs.Prelude.{take, drop}
use Rattle.entry.specs.{Change.Said, Change.entries_of, Inner.change_at}
use Rattle.text.specs.{Answers.entry_line, Answers.entry_lines}
use Rattle.text.proofs.AnswerLaws.{lines_next, lines_end, turn}
use Rattle.text.proofs.inner.put_run.Goals as goal

pub loop-i-init : goal.loop-i-init
loop-i-init c =
    let e : c.args.decided - 0 ≡ c.args.decided = omega arith in
    (omega arith, omega arith, refl, ap (λ (k : ℕ). take c.args.at c.args.out.now ++ entry_lines k (entries_of c.args.n c.args.entries.now)) e)

pub loop-i-preserved : goal.loop-i-preserved
loop-i-preserved c =
    let ws = c.args.entries.now in
    let es = entries_of c.args.n ws in
    let i = c.loop-i.i in
    let line : Said → List ℕ =
    λ (x : Said). entry_line (ltb i c.args.decided) (record { key = (change_at ws i).key; said = x }) in (
      omega arith,
      omega arith,
      omega arith,
      turn (take c.loop-i.o c.loop-i.out) (line (change_at ws i).said) (entry_lines (c.args.decided - i) (drop i es))
          (entry_lines (c.args.decided - (i + 1)) (drop (i + 1) es))
          (take c.args.at c.args.out.now ++ entry_lines c.args.decided es)
          (c.put_entry-o.ensures.out_after ∙ ap (λ (x : Said). take c.loop-i.o c.loop-i.out ++ line x)
          c.said_at.ensures) (lines_next c.args.decided c.args.n ws i (omega arith)) c.loop-i.invariant.3,
    )

pub returns : goal.returns
returns c =
    record {
      upper_bound = omega arith;
      out_after = rw (lines_end c.args.decided c.args.n c.args.entries.now c.loop-i.i (omega arith), append-nil) at c.loop-i.invariant.3;
    }
