-- What nearly every proof uses: the rule sets of the search and of `omega`, paths, numbers, tests, lists.
pub use borrow.Author.Rules.{rules}
pub use native.Mathlib.Omega.{arith}
pub use mathlib.Core.Path.{◌≡◌, refl, sym, ap, ap₂, ◌∙◌}
pub use Prim.Native.Nat.{ℕ, zero, suc, ◌+◌, ◌-◌, ◌*◌, ◌/◌, ◌≤◌, ◌<◌, min, max}
pub use native.Mathlib.Numerals.{add-one}
pub use mathlib.Core.Bool.{Bool, true, false, true≢false, and-true}
unfoldable pub use mathlib.Core.Bool.{◌&&◌, ◌||◌, not}
unfoldable pub use lib.Dec.{eqb, ltb, leb}
pub use borrow.Author.Tests.{not-true, not-false, eq-eqb, ne_eqb, eqb-true, eqb-false, lt-ltb, le-ltb, ltb-true}
pub use borrow.Author.Tests.{ltb-false, le-leb, lt-leb, leb-true, leb-false}
pub use Rattle.std.specs.Prelude.{if◌then◌else◌}
pub use mathlib.Core.Option.{Option, none, some}
pub use mathlib.Core.List.{List, [], ◌∷◌, append-nil, append_assoc}
unfoldable pub use mathlib.Core.List.{◌++◌, map}
pub use lib.ListN.{length-drop, length-take, length-append, length-set, length-map, drop_of_length-le, take-append-drop}
unfoldable pub use lib.ListN.{length, take, drop, replicate, get_or}
pub use lib.Seq.{length-take-le, take_all, drop-cons}
