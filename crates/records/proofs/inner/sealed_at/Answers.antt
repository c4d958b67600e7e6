-- `records::inner::sealed_at` meets its contract.
use Rattle.words.proofs.Prelude.{arith, sym, ap, ℕ, ◌+◌, Bool, ◌&&◌, lt-leb, List, length-drop, length}
use Rattle.words.proofs.Prelude.{drop}
use Rattle.records.specs.Sealed.{sum_holds}
use Rattle.records.proofs.Loops.{sealed_here}
use Rattle.records.proofs.inner.sealed_at.Goals as goal

pub returns-then-s-at : goal.returns-then-s-at
returns-then-s-at c =
    let l : List ℕ = c.args.s.now in
    sym (ap (λ (b : Bool). b && sum_holds c.args.k (drop c.args.at l))
    (lt-leb (c.args.k + 2) (length (drop c.args.at l)) (omega (arith, length-drop c.args.at l))))

pub returns : goal.returns
returns c =
    sealed_here c.args.s.now c.args.at c.args.k c.get_big.result c.sum.result c.get_big.ensures
    c.sum.ensures (omega arith)
