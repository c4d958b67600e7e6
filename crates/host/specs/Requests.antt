-- Requests as the host writes them. A kind is its place in the library's enum, from 0; one that there is not makes a
-- request malformed.
use Rattle.std.specs.Prelude.{ℕ, Bool, ◌&&◌, ◌||◌, List, [], ◌∷◌, map, leb, ltb, eqb, take, if◌then◌else◌}
use Rattle.std.specs.Bool.{then_some}
use Rattle.std.specs.Prelude.{Option as Optional, Some, None}
use Rattle.std.specs.declared.cmp.Ordering.{Ordering}
use Rattle.std.specs.declared.cmp.Ordering.TheVariants.{Less, Equal, Greater}
use Rattle.std.proofs.Math.Option.{Option, none, some}
use Rattle.entry.specs.Limits.{last_word}
use Rattle.entry.specs.Change.{Said, place, removed}
use Rattle.entry.specs.declared.Compaction.{Compaction}
use Rattle.entry.specs.declared.Compaction.TheVariants as compaction
use Rattle.model.specs.Read.{Bound, included, excluded, unbounded}
use Rattle.model.specs.Backend.{Op as ModelOp}
use Rattle.backend.specs.Ops.{op_of}
use Rattle.backend.specs.declared.Op.{Op}
use Rattle.backend.specs.declared.OpList.{OpList}
use Rattle.backend.specs.declared.OpKind.{OpKind}
use Rattle.backend.specs.declared.OpKind.TheVariants.{AppendEntries, AppendOnPrefix, SetPromise, SetDecidedIndex}
use Rattle.backend.specs.declared.OpKind.TheVariants.{SetAcceptedRound, SetCompactedIdx, Trim, SetStopsign}
use Rattle.backend.specs.declared.OpKind.TheVariants.{SetSnapshot}
use Rattle.sync.specs.declared.LogSync.{LogSync}
use Rattle.sync.specs.declared.SnapshotType.{SnapshotType}
use Rattle.sync.specs.declared.SnapshotType.TheVariants.{Complete, Delta}
use Rattle.host.specs.declared.PlainBound.{PlainBound}
use Rattle.host.specs.declared.PlainOp.{PlainOp}
use Rattle.host.specs.declared.PlainOps.{PlainOps}
use Rattle.host.specs.declared.PlainSync.{PlainSync}

-- by a flag: a value or none; an entry's second half; what a compaction does
abbrev pub of_flag : {A : Type 0} → Bool → A → Option A
of_flag given x = if given then some x else none

abbrev pub lent_said : Bool → ℕ → Said
lent_said gone p = if gone then removed else place p

abbrev pub what_of : Bool → Compaction
what_of folds = if folds then compaction.Snapshot else compaction.Trim

abbrev pub order_as : Ordering → ℕ
order_as Less = 0
order_as Equal = 1
order_as Greater = 2

-- an end of a range: any other kind is an end past the last word, which is malformed
abbrev pub end_at : Bound → PlainBound → Bound
end_at past b =
    if eqb b.kind 0 then included b.index.0
    else if eqb b.kind 1 then excluded b.index.0
    else if eqb b.kind 2 then unbounded
    else past

unfoldable pub kind_at : ℕ → OpKind
kind_at n =
    if eqb n 0 then AppendEntries
    else if eqb n 1 then AppendOnPrefix
    else if eqb n 2 then SetPromise
    else if eqb n 3 then SetDecidedIndex
    else if eqb n 4 then SetAcceptedRound
    else if eqb n 5 then SetCompactedIdx
    else if eqb n 6 then Trim
    else if eqb n 7 then SetStopsign
    else SetSnapshot

abbrev pub op_at : PlainOp → Op
op_at o = record { kind = kind_at o.kind; index = o.index; ballot = o.ballot; given = o.given }

-- an operation has a kind, or does not count
abbrev pub known_at : ℕ → ℕ → PlainOp → Bool
known_at used at o = leb used at || ltb o.kind 9

abbrev pub known_all : PlainOps → Bool
known_all l =
    known_at l.count 0 l.a
    && (known_at l.count 1 l.b
    && (known_at l.count 2 l.c
    && (known_at l.count 3 l.d
    && (known_at l.count 4 l.e
    && (known_at l.count 5 l.f && (known_at l.count 6 l.g && known_at l.count 7 l.h))))))

-- all eight, and more after them
abbrev pub eight_with : List Op → PlainOps → List Op
eight_with more l =
    op_at l.a ∷ op_at l.b ∷ op_at l.c ∷ op_at l.d
    ∷ (op_at l.e ∷ op_at l.f ∷ op_at l.g ∷ op_at l.h ∷ more)

-- with a kind that there is not, the list counts as one of nine, which is malformed
abbrev pub list_at : PlainOps → OpList
list_at l = record {
  count = if known_all l then l.count else 9;
  ops = eight_with [] l;
}

-- the same as a slice of at most nine
abbrev pub count_at : PlainOps → ℕ
count_at l = let n = if known_all l then l.count else 9 in if ltb n 9 then n else 9

abbrev pub nine_at : PlainOps → List Op
nine_at l = eight_with (op_at l.h ∷ []) l

abbrev pub slice_at : PlainOps → List ModelOp
slice_at l = map op_of (take (count_at l) (nine_at l))

-- a sync's log part: an unknown kind counts as a snapshot of more keys than there can be, which is malformed
unfoldable pub type_at : ℕ → Optional SnapshotType
type_at k = if eqb k 0 then None else if eqb k 2 then Some Delta else Some Complete

abbrev pub keys_at : ℕ → ℕ → ℕ
keys_at k n = if ltb k 3 then n else last_word

abbrev pub sync_at : PlainSync → LogSync
sync_at s = record {
  sync_idx = s.sync_idx;
  decided_snapshot = type_at s.kind;
  keys = keys_at s.kind s.keys;
  stopsign = then_some s.stop_held s.stopsign;
}
