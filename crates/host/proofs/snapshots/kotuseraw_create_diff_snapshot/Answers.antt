use Rattle.words.proofs.Prelude.{ap, ◌∙◌}
use Rattle.host.proofs.{Carry.diff_by}
use Rattle.host.specs.Plain.{plain, a_diff}
use Rattle.host.proofs.snapshots.kotuseraw_create_diff_snapshot.Goals as goal

pub returns : goal.returns
returns c =
    record {
      value = c.said.ensures ∙ diff_by c.create_diff_snapshot.new.out c.create_diff_snapshot.result
          ∙ ap (plain a_diff) c.create_diff_snapshot.ensures.result_after;
      out_after = c.create_diff_snapshot.ensures.out_after;
    }
