-- `records::inner::get_fields` meets its contract: the numbers got, and those still to come, are those asked for.
use Rattle.words.proofs.Prelude.{◌≡◌, ◌+◌, drop}
use Rattle.records.specs.Sealed.{total}
use Rattle.records.proofs.Fields.{got}
use Rattle.records.proofs.inner.get_fields.Given as goal

abbrev pub invariant-loop-i : goal.invariant-loop-i
invariant-loop-i l = record {
  place : l.here + total (drop l.i l.widths) ≡ l.at + total l.widths;
  asked : got l.widths l.i l.s l.ns l.here ≡ got l.widths 0 l.s l.initial.ns l.at;
}
