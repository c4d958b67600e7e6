-- `reading::inner::read_reply` meets its contract: refusal 11, then by the numbers.
use Rattle.words.proofs.Prelude.{ap, ◌∙◌}
use Rattle.std.specs.Prelude.{Option as Optional}
use Rattle.entry.specs.Guards.{replied}
use Rattle.model.specs.{Calls.read}
use Rattle.state_cache.specs.State.{raw}
use Rattle.entry.proofs.RefusalLaws.{passed_up}
use Rattle.reading.specs.{Replies.bound_of, Replies.run_is, declared.ShownRun.ShownRun}
use Rattle.reading.proofs.{Answers.bad_answer, Replying.read_answer, Replying.end_given, Replying.end_refused}
use Rattle.reading.proofs.inner.read_reply.Goals as goal

pub returns-in_err-start : goal.returns-in_err-start
returns-in_err-start c =
    let p = end_refused _ _ _ c.in_err-start.ensures in
    rw (passed_up c.from_residual.result _ c.from_residual.ensures.1, p.1)
    (bad_answer (read (bound_of c.args.from) (bound_of c.args.to)) (raw c.args.index c.args.log.now c.args.snapshot.now)
    c.requires.okay (rw p.0))

pub returns-in_err-stop : goal.returns-in_err-stop
returns-in_err-stop c =
    let q = end_given _ _ _ c.in_ok-start.ensures in
    let p = end_refused _ _ _ c.in_err-stop.ensures in
    rw (passed_up c.from_residual-in_err-stop.result _ c.from_residual-in_err-stop.ensures.1, p.1)
    (bad_answer (read (bound_of c.args.from) (bound_of c.args.to)) (raw c.args.index c.args.log.now c.args.snapshot.now)
    c.requires.okay (rw (q.0, p.0)))

pub returns : goal.returns
returns c =
    let x = raw c.args.index c.args.log.now c.args.snapshot.now in
    let q = end_given _ _ _ c.in_ok-start.ensures in
    let p = end_given _ _ _ c.in_ok-stop.ensures in
    ap (λ (s : Optional ShownRun). replied (run_is x s)) c.read_at.ensures
    ∙ read_answer x c.requires (bound_of c.args.from) (bound_of c.args.to) _ _ c.accepted-last.result
    (rw (q.0, p.0)) q.1 p.1 c.accepted-last.ensures
