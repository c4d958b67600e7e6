-- `records::inner::sum` meets its contract: as many bytes as it may be told have a sum that fits.
use Rattle.words.proofs.Prelude.{rules, arith, ◌≡◌, ap, ◌∙◌, ℕ, ◌+◌, ◌-◌, List, take, drop, length-take}
use Prim.Native.Nat.{◌%◌, ◌^◌}
use Rattle.std.specs.Prelude.{sum}
use Rattle.std.proofs.Common.{tests}
use Rattle.std.proofs.iter.runs.Made.{chains}
use Rattle.std.proofs.lemmas.Iterator.{YieldsList-from_slice}
use Rattle.std.proofs.lemmas.Iterator.Adapters.{fits_from_length, at_most_from_yields_List}
use Rattle.records.proofs.Loops.{total_sum}
use Rattle.records.proofs.inner.sum.Goals as goal

pub sum-t-requires-clause-fits : goal.sum-t-requires-clause-fits
sum-t-requires-clause-fits c =
    let bytes : List ℕ = take (c.args.at + c.args.k - c.args.at) (drop c.args.at c.args.s.now) in
    fits_from_length _ _ 65536 (2 ^ 64)
    (at_most_from_yields_List (YieldsList-from_slice bytes cc) (simp length-take (omega arith)))
    c.map.ensures.closure
    (omega arith)
    (λ x r q k. search (rules, tests))

pub returns : goal.returns
returns c =
    let bytes : List ℕ = take c.args.k (drop c.args.at c.args.s.now) in
    let e : c.sum-t.result ≡ sum bytes = search (rules, chains) in
    ap (λ (n : ℕ). n % 65536) (e ∙ total_sum bytes)
