-- `records::inner::get_big` meets its contract: eight bytes are two numbers of four.
use Rattle.words.proofs.Prelude.{arith, sym, ap, ap₂, ◌∙◌, ℕ, ◌+◌, ◌*◌, take, drop}
use Rattle.records.specs.Big.{value}
use Rattle.records.proofs.Loops.{four_small, halves}
use Rattle.records.proofs.inner.get_big.Goals as goal

pub overflow_mul-result : goal.overflow_mul-result
overflow_mul-result c =
    omega (arith, c.get_part.ensures, four_small c.args.s.now c.type_inv.s c.args.at (omega arith))

pub overflow_add-result : goal.overflow_add-result
overflow_add-result c = omega (
  arith,
  c.get_part.ensures,
  c.get_part-then-k-eq8.ensures,
  four_small c.args.s.now c.type_inv.s c.args.at (omega arith),
  four_small c.args.s.now c.type_inv.s (c.args.at + 4) (omega arith),
)

pub returns-then-k-eq8 : goal.returns-then-k-eq8
returns-then-k-eq8 c =
    ap₂ (λ (a b : ℕ). a * 4294967296 + b) c.get_part.ensures c.get_part-then-k-eq8.ensures
    ∙ halves c.args.s.now c.type_inv.s c.args.at (omega arith)
    ∙ ap (λ (k : ℕ). value (take k (drop c.args.at c.args.s.now))) (sym c.if-k-eq8.true)
