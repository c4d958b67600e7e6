-- `snapshot::merge` meets its contract: refusal 11, or the second folded onto the first.
use Rattle.words.proofs.Prelude.{◌≡◌, sym, ap₂, ◌∙◌, Bool, true, false, ◌&&◌, eqb}
use Rattle.words.proofs.Prelude.{length}
use Rattle.entry.specs.Limits.{snapshot_words}
use Rattle.snapshot.proofs.Calling.{mergeable, merge_malformed, merge_needs, merge_stands}
use Rattle.snapshot.proofs.merge.Goals as goal
use Rattle.snapshot.proofs.merge.Goals.{After-snapshot_formed-second}

tested : (e : After-snapshot_formed-second) (t : Bool)
    → (e.snapshot_formed-first.result && (e.snapshot_formed-second.result
    && eqb (length e.args.out.now) snapshot_words)) ≡ t
    → mergeable e.args.a.now
    e.args.n e.args.b.now
    e.args.m
    e.args.out.now ≡ t
tested e t q =
    ap₂ (λ (x y : Bool). x && (y && eqb (length e.args.out.now)
    snapshot_words)) (sym e.snapshot_formed-first.ensures) (sym e.snapshot_formed-second.ensures) ∙ q

pub returns-then-not-first-second : goal.returns-then-not-first-second
returns-then-not-first-second c =
    merge_malformed c.args.a.now c.args.n c.args.b.now c.args.m c.args.out.now
    (tested (goal.at.returns-then-not-first-second c).After-snapshot_formed-second false (c.if-not-first-second.true))

pub fold_aside-requires : goal.fold_aside-requires
fold_aside-requires c =
    merge_needs c.args.a.now c.args.n c.args.b.now c.args.m c.args.out.now
    (tested (goal.at.fold_aside-requires c).After-snapshot_formed-second true (c.if-not-first-second.false))

pub returns : goal.returns
returns c =
    c.fold_aside.ensures
    ∙ merge_stands c.args.a.now c.args.n c.args.b.now c.args.m c.args.out.now
    (tested (goal.at.returns c).After-snapshot_formed-second true (c.if-not-first-second.false))
