-- `diff::create_diff_snapshot` meets its contract: refusals 12 and 11, or what a diff of a well-formed log comes to.
use Rattle.words.proofs.Prelude.{◌≡◌, sym, ◌∙◌, true, eqb, ne_eqb, length}
use Rattle.entry.specs.Limits.{snapshot_words}
use Rattle.state_cache.specs.State.{raw, formed}
use Rattle.state_cache.proofs.Stands.{ready_of}
use Rattle.diff.proofs.Telling.{diff_ill_formed, diff_malformed}
use Rattle.diff.proofs.create_diff_snapshot.Goals as goal
use Rattle.diff.proofs.create_diff_snapshot.Goals.{Else-not-well_formed}

okay : (e : Else-not-well_formed) → formed (raw e.args.index e.args.log.now e.args.snapshot.now) ≡ true
okay e = sym e.well_formed-2.ensures ∙ e.if-not-well_formed.false

pub returns-then-not-well_formed : goal.returns-then-not-well_formed
returns-then-not-well_formed c =
    let p = diff_ill_formed (raw c.args.index c.args.log.now c.args.snapshot.now) c.args.from.0 c.args.out.now
    (eqb (length c.args.out.now) snapshot_words)
    (sym c.well_formed-2.ensures ∙ c.if-not-well_formed.true) in
    record { result_after = p.0; out_after = p.1 }

pub returns-then-not-roomy : goal.returns-then-not-roomy
returns-then-not-roomy c =
    let p = diff_malformed (raw c.args.index c.args.log.now c.args.snapshot.now) c.args.from.0 c.args.out.now
    (okay (goal.at.returns-then-not-roomy c).Else-not-well_formed) (eqb (length c.args.out.now) snapshot_words)
    (ne_eqb _ _ c.if-not-roomy.true) in
    record { result_after = p.0; out_after = p.1 }

pub diff_at-requires : goal.diff_at-requires
diff_at-requires c = (
  ready_of (raw c.args.index c.args.log.now c.args.snapshot.now)
      (okay (goal.at.diff_at-requires c).Else-not-well_formed),
  c.if-not-roomy.false,
)
