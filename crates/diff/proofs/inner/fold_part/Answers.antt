-- `diff::inner::fold_part` meets its contract: a fold of the log's rest onto the empty snapshot.
use Rattle.words.proofs.Prelude.{◌∙◌}
use Rattle.diff.proofs.{Giving.rest_needs, Giving.rest_folds}
use Rattle.diff.proofs.inner.fold_part.Goals as goal

pub fold_out-requires : goal.fold_out-requires
fold_out-requires c =
    rest_needs c.args.first c.args.n c.args.log.now c.args.out.now
    c.requires.1.0 c.requires.1.1

pub returns : goal.returns
returns c =
    c.fold_out.ensures ∙ rest_folds c.args.first c.args.n c.args.log.now c.args.out.now
