-- `internal_storage::inner::append_at` meets its contract: the first refusal, or the entries put after the batch.
use Rattle.words.proofs.Prelude.{arith, ap, ◌∙◌}
use Rattle.std.specs.Prelude.{Option}
use Rattle.entry.specs.Guards.{replied}
use Rattle.entry.proofs.RefusalLaws.{passed_up}
use Rattle.state_cache.specs.{State.raw, Run.outcome, declared.IndexRecord.IndexRecord}
use Rattle.internal_storage.specs.{Replies.flushed_is, declared.Flushed.Flushed}
use Rattle.internal_storage.proofs.Effects.{append_run, append_refused, append_room}
use Rattle.internal_storage.proofs.inner.append_at.Goals as goal

pub returns-in_err-check_append : goal.returns-in_err-check_append
returns-in_err-check_append c =
    rw (passed_up c.from_residual.result _ c.from_residual.ensures.1)
    (append_refused (raw c.args.index.now c.args.log.now c.args.snapshot.now) c.requires.ready.okay c.args.n
    c.args.entries.now
    c.requires.fine _ _ c.in_err-check_append.ensures)

pub splice-requires-clause-insert_in_bounds : goal.splice-requires-clause-insert_in_bounds
splice-requires-clause-insert_in_bounds c =
    omega (arith, append_room _ _ c.in_ok-check_append.ensures, c.requires.ready.log.long, c.requires.whole)

pub batch_with-requires : goal.batch_with-requires
batch_with-requires c =
    (c.requires.ready.numbers, append_room _ _ c.in_ok-check_append.ensures)

pub returns : goal.returns
returns c =
    ap (λ (p : IndexRecord × Option Flushed). outcome (replied (flushed_is p.1)) (raw p.0 c.splice.new.s
    c.args.snapshot.now)) c.batch_with.ensures
    ∙ append_run (raw c.args.index.now c.args.log.now c.args.snapshot.now) c.requires.ready.okay c.args.n
    c.args.entries.now c.splice.new.s c.requires.whole c.splice.ensures c.requires.fine c.in_ok-check_append.ensures
