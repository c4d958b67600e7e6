-- `records::inner::put_fields` meets its contract: at each turn, what is left to put gives what is asked.
use Rattle.words.proofs.Prelude.{arith, rules, sym, ap, ap₂, ◌∙◌, List, length, ℕ}
use Rattle.std.specs.{Iterator.Adapters.zip_first, Iterator.Adapters.zip_second, Slice.Iter.iter_rest}
use Rattle.records.specs.Sealed.{total}
use Rattle.records.proofs.Fields.{left, put_turn, put_done}
use Rattle.records.proofs.inner.put_fields.Goals as goal

pub put_big-requires : goal.put_big-requires
unfolding total
put_big-requires c =
    omega (arith, ap total c.in-Some.ensures.steps.0)

pub overflow_add-here : goal.overflow_add-here
unfolding total
overflow_add-here c =
    omega (arith, ap total c.in-Some.ensures.steps.0)

pub loop-width-preserved : goal.loop-width-preserved
unfolding total
loop-width-preserved c =
    let l = c.loop-width in
    let p = c.in-Some.ensures.steps in
    record {
      can_next = search rules;
      is_finite = search rules;
      pairs = omega (arith, ap length p.0, ap length p.1);
      place = omega (arith, ap total p.0);
      asked =
          put_turn c.in-Some.width.now c.in-Some.n.now l.here _ _ l.s c.put_big.new.s (omega (arith, ap total p.0))
          c.put_big.ensures
          ∙ sym (ap₂ (λ (x y : List ℕ). left x y l.here l.s) p.0 p.1)
          ∙ l.invariant.asked;
    }

pub returns : goal.returns
returns c =
    let l = c.loop-width in
    let ws : List ℕ = iter_rest (zip_first l.width-iterator) in
    sym (put_done l.here ws (iter_rest (zip_second l.width-iterator)) l.s (grind arith))
    ∙ l.invariant.asked
