-- `backend::inner::list::write_at` meets its contract: the list runs on copies, which are written back where it stands.
use Rattle.entry.proofs.RefusalLaws.{passed_up}
use Rattle.std.specs.Prelude.{Ok, Err}
use Rattle.words.proofs.Prelude.{ap₂, ◌∙◌, List, ℕ}
use Rattle.entry.specs.Guards.{replied}
use Rattle.state_cache.specs.{State.raw, Run.outcome}
use Rattle.backend.specs.{Ops.ops_in, Ops.lent_of}
use Rattle.backend.proofs.Turns.{write_refused, write_stands, wrote_copy}
use Rattle.backend.proofs.inner.list.write_at.Goals as goal

pub returns-in_err-after : goal.returns-in_err-after
returns-in_err-after c =
    let l = lent_of c.args.lent c.args.entries.now c.args.incoming.now in
    let r = raw c.args.before c.args.log.now c.args.snapshot.now in
    rw (passed_up c.from_residual.result _ c.from_residual.ensures.1)
    (write_refused r l (ops_in c.args.list) c.requires.ready.okay c.requires.okay _
    (wrote_copy c.args.before c.args.log.now c.copy_words.new.dst c.args.snapshot.now c.copy_words-2.new.dst
    c.copy_words.ensures c.copy_words-2.ensures l (ops_in c.args.list) (Err c.in_err-after.field-0.0) c.run_ops.new.log
    c.run_ops.new.snapshot c.in_err-after.ensures))

pub returns : goal.returns
returns c =
    let l = lent_of c.args.lent c.args.entries.now c.args.incoming.now in
    let r = raw c.args.before c.args.log.now c.args.snapshot.now in
    ap₂ (λ (m n : List ℕ). outcome (replied tt) (raw c.in_ok-after.after m n)) c.copy_words-3.ensures
    c.copy_words-4.ensures
    ∙ write_stands r l (ops_in c.args.list) c.requires.ready.okay c.requires.okay
    (raw c.in_ok-after.after c.run_ops.new.log c.run_ops.new.snapshot)
    (wrote_copy c.args.before c.args.log.now c.copy_words.new.dst c.args.snapshot.now c.copy_words-2.new.dst
    c.copy_words.ensures c.copy_words-2.ensures l (ops_in c.args.list) (Ok c.in_ok-after.after) c.run_ops.new.log
    c.run_ops.new.snapshot c.in_ok-after.ensures)
