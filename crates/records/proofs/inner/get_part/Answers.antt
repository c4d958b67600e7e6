-- `records::inner::get_part` meets its contract: the number so far is that of the bytes passed.
use Rattle.words.proofs.Prelude.{arith, ◌≡◌, refl, ap, ◌∙◌, ◌+◌, ◌-◌, take, drop}
use Rattle.std.proofs.lemmas.Grind.{common_steps}
use Rattle.records.specs.Big.{onto, value}
use Rattle.records.proofs.BigLaws.{value_more}
use Rattle.records.proofs.Loops.{get_room}
use Rattle.records.proofs.inner.get_part.Goals as goal

pub overflow_mul-n : goal.overflow_mul-n
overflow_mul-n c =
    omega (
      arith,
      get_room c.args.s.now c.args.at c.args.k c.type_inv.s c.loop-b.b-index c.requires.k_bound c.loop-b-test.true,
    )

pub overflow_add-n : goal.overflow_add-n
overflow_add-n c =
    omega (
      arith,
      get_room c.args.s.now c.args.at c.args.k c.type_inv.s c.loop-b.b-index c.requires.k_bound c.loop-b-test.true,
    )

pub loop-b-init : goal.loop-b-init
unfolding onto
loop-b-init c = refl

pub loop-b-preserved : goal.loop-b-preserved
loop-b-preserved c =
    let l = take (c.args.at + c.args.k - c.args.at) (drop c.args.at c.args.s.now) in
    let h = value_more l c.loop-b.b-index c.loop-b-test.true in
    cc

pub returns : goal.returns
returns c =
    let l = take (c.args.at + c.args.k - c.args.at) (drop c.args.at c.args.s.now) in
    let e : take c.loop-b.b-index l ≡ take c.args.k (drop c.args.at c.args.s.now) = grind (arith, common_steps) in
    c.loop-b.invariant ∙ ap value e
