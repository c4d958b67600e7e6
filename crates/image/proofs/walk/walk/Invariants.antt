-- `image::walk::walk` meets its contract.
use Rattle.words.proofs.Prelude.{◌≡◌, ◌≤◌, length}
use Rattle.image.specs.Reading.{wants}
use Rattle.image.specs.Inner.{floor_of}
use Rattle.image.proofs.Walks.{At}
use Rattle.image.proofs.walk.walk.Given as goal

abbrev pub invariant-loop-i : goal.invariant-loop-i
invariant-loop-i l = record {
  all : l.n ≡ length (wants l.h);
  within : l.here ≤ length l.s;
  stands : At l.h l.s l.i l.here (floor_of l.above);
}
