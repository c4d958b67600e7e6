-- `image::write` meets its contract.
use Rattle.words.proofs.Prelude.{sym, ◌∙◌}
use Rattle.state_cache.specs.State.{raw}
use Rattle.state_cache.proofs.Stands.{ready_of}
use Rattle.image.proofs.Writing.{write_ill}
use Rattle.image.proofs.write.Goals as goal

pub returns-then-not-well_formed : goal.returns-then-not-well_formed
returns-then-not-well_formed c =
    record {
      out_after = write_ill (raw c.args.index c.args.log.now c.args.snapshot.now) c.args.out.now
          (sym c.well_formed-2.ensures ∙ c.if-not-well_formed.true);
      reads_back = tt;
    }

pub write-requires : goal.write-requires
write-requires c =
    ready_of _ (sym c.well_formed-2.ensures ∙ c.if-not-well_formed.false)
