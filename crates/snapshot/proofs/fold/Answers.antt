-- `snapshot::fold` meets its contract: refusal 11, or a fold onto the empty snapshot.
use Rattle.words.proofs.Prelude.{◌≡◌, sym, ap, ◌∙◌, Bool, true, false, ◌&&◌, eqb}
use Rattle.words.proofs.Prelude.{length}
use Rattle.entry.specs.Limits.{snapshot_words}
use Rattle.snapshot.proofs.Calling.{foldable, fold_malformed, fold_needs, fold_stands}
use Rattle.snapshot.proofs.fold.Goals as goal
use Rattle.snapshot.proofs.fold.Goals.{After-entries_formed-fine}

tested : (e : After-entries_formed-fine) (t : Bool)
    → (e.entries_formed-fine.result && eqb (length e.args.out.now) snapshot_words) ≡ t
    → foldable e.args.entries.now e.args.out.now ≡ t
tested e t q =
    ap (λ (b : Bool). b && eqb (length e.args.out.now) snapshot_words)
    (sym e.entries_formed-fine.ensures) ∙ q

pub returns-then-not-fine-roomy : goal.returns-then-not-fine-roomy
returns-then-not-fine-roomy c =
    fold_malformed c.args.entries.now c.args.out.now
    (tested (goal.at.returns-then-not-fine-roomy c).After-entries_formed-fine false (c.if-not-fine-roomy.true))

pub fold_out-requires : goal.fold_out-requires
fold_out-requires c =
    fold_needs c.args.entries.now c.args.out.now (tested (goal.at.fold_out-requires c).After-entries_formed-fine true (c.if-not-fine-roomy.false))

pub returns : goal.returns
returns c =
    c.fold_out.ensures
    ∙ fold_stands c.args.entries.now c.args.out.now (tested (goal.at.returns c).After-entries_formed-fine true (c.if-not-fine-roomy.false))
