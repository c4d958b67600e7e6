-- `records::inner::get_fields` meets its contract: the numbers got, and those still to come, are those asked for.
use Rattle.words.proofs.Prelude.{arith, ◌∙◌}
use Rattle.records.proofs.Fields.{narrow_at, total_turn, got_turn, got_done}
use Rattle.records.proofs.inner.get_fields.Goals as goal

pub get_big-requires : goal.get_big-requires
get_big-requires c =
    let l = c.loop-i in
    record {
      k_in_bounds = omega (arith, total_turn c.args.widths.now l.i (omega arith));
      k_bound = narrow_at c.args.widths.now l.i c.requires.widths_value (omega arith);
    }

pub overflow_add-here : goal.overflow_add-here
overflow_add-here c =
    omega (arith, total_turn c.args.widths.now c.loop-i.i (omega arith))

pub loop-i-preserved : goal.loop-i-preserved
loop-i-preserved c =
    let l = c.loop-i in
    record {
      place = omega (arith, total_turn c.args.widths.now l.i (omega arith));
      asked =
          got_turn c.args.widths.now l.i c.args.s.now l.ns l.here c.get_big.result (omega arith) (omega arith)
          c.get_big.ensures
          ∙ l.invariant.asked;
    }

pub returns : goal.returns
returns c =
    let l = c.loop-i in
    got_done c.args.widths.now l.i c.args.s.now l.ns l.here (omega arith) (omega arith) ∙ l.invariant.asked
