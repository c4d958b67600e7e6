-- `text::inner::number` meets its contract: the digits that are left make of the number already read what the whole
-- makes of none.
use Rattle.words.proofs.Prelude.{◌≡◌, ◌<◌, drop}
use Prim.Native.Nat.{◌^◌}
use Rattle.text.specs.Number.{numeral_of}
use Rattle.text.proofs.ParseLaws.{whole}
use Rattle.text.proofs.inner.number.Given as goal

abbrev pub invariant-loop-b : goal.invariant-loop-b
invariant-loop-b l = (l.n < 2 ^ 64) × (whole l.n (drop l.b-index l.s) ≡ numeral_of l.s)
