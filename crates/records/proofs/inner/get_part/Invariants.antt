-- `records::inner::get_part` meets its contract: the number so far is that of the bytes passed.
use Rattle.words.proofs.Prelude.{◌≡◌, take}
use Rattle.records.specs.Big.{value}
use Rattle.records.proofs.inner.get_part.Given as goal

abbrev pub invariant-loop-b : goal.invariant-loop-b
invariant-loop-b l = l.n ≡ value (take l.b-index l.bytes)
