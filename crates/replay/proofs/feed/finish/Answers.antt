-- `replay::feed::finish` meets its contract: the answer is put where there is room for it.
use Rattle.words.proofs.Prelude.{arith, ap, ◌∙◌, ℕ, take}
use Rattle.state_cache.specs.State.{Raw, raw}
use Rattle.text.specs.{Lines.Lines, Feeding.come, declared.Command.Command}
use Rattle.text.proofs.FeedLaws.{next_low}
use Rattle.replay.specs.{Answering.answering, Feeding.meaning, Feeding.last_start, Feeding.after}
use Rattle.replay.proofs.{Inputs.finished}
use Rattle.replay.proofs.feed.finish.Goals as goal

pub returns : goal.returns
returns c =
    let done = c.step-used in
    let at = c.in_ok-at.at in
    let x = raw c.args.st.index c.args.log.now c.args.snapshot.now in
    let came = come c.args.st.held.over c.args.st.held.len c.args.line.now in
    let answered =
    done.ensures.snapshot_after
    ∙ ap (λ (k : Command). after (take at c.args.out.now) (answering k x))
    c.command_of-command.ensures
    ∙ ap (λ (n : ℕ). after (take n c.args.out.now) (answering (meaning came) x)) c.in_ok-at.ensures in record {
      len_in_bounds = (omega arith, omega (arith, done.ensures.at_bound, c.in_ok-at.ensures, next_low last_start c.args.st.used));
      reached = λ (from : Raw) (ls : Lines) st.
          finished from ls x came c.args.st.used c.args.out.now st _ _ c.args.line.now answered;
      failed = tt;
    }
