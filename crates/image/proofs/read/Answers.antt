-- `image::read` meets its contract: refused before a word is written, or loaded.
use Rattle.words.proofs.Prelude.{sym, ap, ◌∙◌}
use Rattle.entry.proofs.RefusalLaws.{passed_up}
use Rattle.image.specs.Calls.{judged}
use Rattle.image.proofs.Loading.{read_malformed, read-refused, read_loaded}
use Rattle.image.proofs.read.Goals as goal

pub returns-then-not-sized-roomy : goal.returns-then-not-sized-roomy
returns-then-not-sized-roomy c =
    read_malformed c.args.batch_size c.args.bytes.now c.args.log.now c.args.snapshot.now c.if-not-sized-roomy.true

pub returns-in_err-judge : goal.returns-in_err-judge
returns-in_err-judge c =
    rw (passed_up c.from_residual.result _ c.from_residual.ensures.1)
    (read-refused c.args.batch_size c.args.bytes.now c.args.log.now c.args.snapshot.now
    (c.if-not-sized-roomy.false) _ _ (sym (ap judged c.in_err-judge.was) ∙ c.judge.ensures))

pub returns : goal.returns
returns c =
    c.load.ensures
    ∙ read_loaded c.args.batch_size c.args.bytes.now c.args.log.now c.args.snapshot.now (c.if-not-sized-roomy.false)
    (sym (ap judged c.in_ok-judge.was) ∙ c.judge.ensures)
