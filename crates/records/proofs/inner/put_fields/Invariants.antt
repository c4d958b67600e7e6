-- `records::inner::put_fields` meets its contract: at each turn, what is left to put gives what is asked.
use Rattle.words.proofs.Prelude.{◌≡◌, ◌+◌, List, length, ℕ}
use Rattle.std.specs.{Iterator.Adapters.zip_first, Iterator.Adapters.zip_second, Slice.Iter.iter_rest}
use Rattle.records.specs.Sealed.{total}
use Rattle.records.proofs.Fields.{left}
use Rattle.records.proofs.inner.put_fields.Given as goal

abbrev pub invariant-loop-width : goal.invariant-loop-width
invariant-loop-width l =
    let ws : List ℕ = iter_rest (zip_first l.width-iterator) in
    let ns : List ℕ = iter_rest (zip_second l.width-iterator) in
    record {
      can_next : (goal.iterator-loop-width).can_next l.width-iterator;
      is_finite : (goal.iterator-loop-width).is_finite l.width-iterator;
      pairs : length ns ≡ length ws;
      place : l.here + total ws ≡ l.at + total l.widths;
      asked : left ws ns l.here l.s ≡ left l.widths l.ns l.at l.initial.s;
    }
