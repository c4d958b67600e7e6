-- `snapshot::inner::fold_out` meets its contract: by what the fold came to.
use Rattle.words.proofs.Prelude.{sym, ◌∙◌}
use Rattle.entry.proofs.RefusalLaws.{passed_up}
use Rattle.snapshot.proofs.Calling.{out_refused, out_written}
use Rattle.snapshot.proofs.inner.fold_out.Goals as goal

pub returns-in_err-keys : goal.returns-in_err-keys
returns-in_err-keys c =
    rw (passed_up c.from_residual.result _ c.from_residual.ensures.1 ∙ sym c.in_err-keys.was)
    (out_refused c.args.kept c.args.scratch.now c.args.n c.args.entries.now c.args.out.now
    c.requires c.fold_onto.result c.fold_onto.new.s c.fold_onto.ensures _ c.in_err-keys.was)

pub returns : goal.returns
returns c =
    rw c.copy_words.ensures (out_written c.args.kept c.args.scratch.now c.args.n
    c.args.entries.now c.args.out.now c.requires c.fold_onto.result c.fold_onto.new.s
    c.fold_onto.ensures _ c.in_ok-keys.was)
