-- `compaction::create_snapshot` meets its contract: refusals 12 and 11, or what a creation from a well-formed log comes
-- to.
use Rattle.words.proofs.Prelude.{◌≡◌, sym, ◌∙◌, true, eqb, ne_eqb, length}
use Rattle.entry.specs.Limits.{snapshot_words}
use Rattle.state_cache.specs.State.{raw, formed}
use Rattle.state_cache.proofs.Stands.{ready_of}
use Rattle.compaction.proofs.Creates.{create_ill_formed, create_malformed}
use Rattle.compaction.proofs.create_snapshot.Goals as goal
use Rattle.compaction.proofs.create_snapshot.Goals.{Else-not-well_formed}

okay : (e : Else-not-well_formed) → formed (raw e.args.index e.args.log.now e.args.snapshot.now) ≡ true
okay e = sym e.well_formed-2.ensures ∙ e.if-not-well_formed.false

pub returns-then-not-well_formed : goal.returns-then-not-well_formed
returns-then-not-well_formed c =
    create_ill_formed (raw c.args.index c.args.log.now c.args.snapshot.now) c.args.idx.0 c.args.out.now
    (eqb (length c.args.out.now) snapshot_words)
    (sym c.well_formed-2.ensures ∙ c.if-not-well_formed.true)

pub returns-then-not-roomy : goal.returns-then-not-roomy
returns-then-not-roomy c =
    create_malformed (raw c.args.index c.args.log.now c.args.snapshot.now) c.args.idx.0 c.args.out.now
    (okay (goal.at.returns-then-not-roomy c).Else-not-well_formed) (eqb (length c.args.out.now) snapshot_words)
    (ne_eqb _ _ c.if-not-roomy.true)

pub create_at-requires : goal.create_at-requires
create_at-requires c = (
  ready_of (raw c.args.index c.args.log.now c.args.snapshot.now)
      (okay (goal.at.create_at-requires c).Else-not-well_formed),
  c.if-not-roomy.false,
)
