-- `snapshot::inner::fold_over` meets its contract: by what the first fold came to.
use Rattle.words.proofs.Prelude.{sym, ◌∙◌, length}
use Rattle.entry.proofs.RefusalLaws.{passed_up}
use Rattle.entry.specs.Change.{entries_of}
use Rattle.snapshot.specs.{Folds.fold_onto, Inner.FoldIs}
use Rattle.snapshot.proofs.{Over.twice_refused, Over.twice_next, Over.twice_folds}
use Rattle.snapshot.proofs.inner.fold_over.Goals as goal
use Rattle.snapshot.proofs.inner.fold_over.Goals.{After-fold_onto}

-- the scratch words are the snapshot's
folded_is : (f : After-fold_onto)
    → FoldIs (length f.args.snapshot.now)
    (fold_onto (entries_of f.args.kept f.args.snapshot.now) (entries_of f.args.n
    f.args.entries.now)) f.fold_onto.result f.fold_onto.new.s
folded_is f =
    rw f.copy_words.ensures at f.fold_onto.ensures

pub returns-in_err-keys : goal.returns-in_err-keys
returns-in_err-keys c =
    rw (passed_up c.from_residual.result _ c.from_residual.ensures.1 ∙ sym c.in_err-keys.was)
    (twice_refused c.args.kept c.args.snapshot.now c.args.n c.args.entries.now c.args.m
    c.args.more.now c.requires.0 c.requires.1 c.fold_onto.result c.fold_onto.new.s (folded_is (goal.at.returns-in_err-keys c).After-fold_onto) _
    c.in_err-keys.was)

pub fold_out-requires : goal.fold_out-requires
fold_out-requires c =
    twice_next c.args.kept c.args.snapshot.now c.args.n c.args.entries.now c.args.m
    c.args.more.now c.requires.0 c.requires.1 c.fold_onto.result c.fold_onto.new.s (folded_is (goal.at.fold_out-requires c).After-fold_onto) _
    c.in_ok-keys.was

pub returns : goal.returns
returns c =
    c.fold_out.ensures
    ∙ twice_folds c.args.kept c.args.snapshot.now c.args.n c.args.entries.now c.args.m
    c.args.more.now c.requires.0 c.requires.1 c.fold_onto.result c.fold_onto.new.s (folded_is (goal.at.returns c).After-fold_onto) _
    c.in_ok-keys.was
