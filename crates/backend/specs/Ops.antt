-- The request of an operation list, read off its arguments.
use Rattle.std.specs.Prelude.{ℕ, Bool, ◌&&◌, ◌||◌, not, List, map, leb, eqb, length, take, if◌then◌else◌}
use Rattle.std.proofs.Math.Option.{none, some}
use Rattle.entry.specs.Limits.{snapshot_words, most_ops}
use Rattle.entry.specs.Change.{entries_of, entries_in, whole_in}
use Rattle.snapshot.specs.Calls.{snapshot_formed}
use Rattle.model.specs.Backend.{Op, append_entries, append_on_prefix, set_decided, set_compacted, trim, set_promise, set_round}
use Rattle.model.specs.Backend.{set_sign, set_snapshot, Lent}
use Rattle.backend.specs.declared.Op.{Op as CodeOp}
use Rattle.backend.specs.declared.OpKind.{OpKind}
use Rattle.backend.specs.declared.OpKind.TheVariants.{AppendEntries, AppendOnPrefix, SetPromise, SetDecidedIndex}
use Rattle.backend.specs.declared.OpKind.TheVariants.{SetAcceptedRound, SetCompactedIdx, Trim, SetStopsign}
use Rattle.backend.specs.declared.OpKind.TheVariants.{SetSnapshot}
use Rattle.backend.specs.declared.OpList.{OpList}
use Rattle.backend.specs.declared.Lent.{Lent as CodeLent}

abbrev pub of_kind : OpKind → CodeOp → Op
of_kind AppendEntries o = append_entries
of_kind AppendOnPrefix o = append_on_prefix o.index.0
of_kind SetPromise o = set_promise o.ballot
of_kind SetDecidedIndex o = set_decided o.index.0
of_kind SetAcceptedRound o = set_round o.ballot
of_kind SetCompactedIdx o = set_compacted o.index.0
of_kind Trim o = trim o.index.0
of_kind SetStopsign o = set_sign o.given
of_kind SetSnapshot o = set_snapshot o.given

abbrev pub op_of : CodeOp → Op
op_of o = of_kind o.kind o

abbrev pub ops_in : OpList → List Op
ops_in l = map op_of (take l.count l.ops)

-- what is lent beside it: the entries, the snapshot's words and the rest
abbrev pub lent_of : CodeLent → List ℕ → List ℕ → Lent
lent_of b entries incoming = record {
  entries = entries_in entries;
  snapshot = if b.snapshot_lent then some (entries_of b.keys incoming) else none;
  sign = if b.stop_lent then some b.stop else none;
}

-- "any snapshot slice not of 1,024 words"; its form is judged where a snapshot is lent
unfoldable pub incoming_formed : CodeLent → List ℕ → Bool
incoming_formed b ws = eqb (length ws) snapshot_words && (not b.snapshot_lent || snapshot_formed b.keys ws)

-- the words make a request; and a list by value does where it has no operation too many
unfoldable pub whole_lent : CodeLent → List ℕ → List ℕ → Bool
whole_lent b entries incoming = whole_in entries && incoming_formed b incoming

abbrev pub whole_list : CodeLent → List ℕ → List ℕ → OpList → Bool
whole_list b entries incoming l = whole_lent b entries incoming && leb l.count most_ops
