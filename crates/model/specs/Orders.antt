-- The table's rows for each call: "Order, first that applies. All: 12, 11", and then `order_of`; and "Carries".
use Rattle.std.specs.Prelude.{ℕ, List, [], ◌∷◌, ◌++◌, eqb, if◌then◌else◌}
use Rattle.std.proofs.Math.Option.{Option, none, some}
use Rattle.model.specs.Numbers.{Numbers, end_of, accepted_of}
use Rattle.model.specs.Compact.{snapshots_only}
use Rattle.model.specs.Sync.{Part, part_numbers, decided_then, accepted_then}
use Rattle.model.specs.Backend.{Op, append_entries, append_on_prefix, set_decided, set_compacted, trim as op_trim}
use Rattle.model.specs.Backend.{set_promise as op_promise, set_round, set_sign, set_snapshot}
use Rattle.model.specs.Calls.{Query, read, read_decided, get_suffix, create, diff, lookup, lookup_many, get_entries}
use Rattle.model.specs.Calls.{Call, query, append, append_now, flush, flush_entries, append_stop, set_stop}
use Rattle.model.specs.Calls.{set_promise, decide, compact, sync, reload, write}

abbrev pub query_order : Query → List ℕ
query_order (read a b) = []
query_order (read_decided i) = []
query_order (get_suffix i) = []
query_order (create i) = 3 ∷ 2 ∷ 16 ∷ 8 ∷ []
query_order (diff i) = 16 ∷ 8 ∷ []
query_order (lookup k) = []
query_order (lookup_many ks) = []
query_order (get_entries i j) = []

-- the operation list has its own rule: 7, then 1, of each operation; after the last 9, then 12
abbrev pub op_order : Op → List ℕ
op_order append_entries = 1 ∷ []
op_order (append_on_prefix i) = 7 ∷ 1 ∷ []
op_order (set_decided i) = []
op_order (set_compacted i) = []
op_order (op_trim i) = []
op_order (op_promise b) = []
op_order (set_round b) = []
op_order (set_sign t) = []
op_order (set_snapshot t) = []

abbrev pub ops_order : List Op → List ℕ
ops_order [] = 9 ∷ 12 ∷ []
ops_order (o ∷ ops) = op_order o ++ ops_order ops

abbrev pub order_of : Call → List ℕ
order_of (query q) = query_order q
order_of (append es) = 4 ∷ 9 ∷ 1 ∷ []
order_of (append_now es) = 4 ∷ 9 ∷ 1 ∷ []
order_of flush = []
order_of flush_entries = []
order_of (append_stop g) = 4 ∷ 9 ∷ []
order_of (set_stop g) = 4 ∷ 10 ∷ 9 ∷ []
order_of (set_promise b) = []
order_of (decide i) = 5 ∷ 6 ∷ []
order_of (compact what upto) = 2 ∷ snapshots_only what (16 ∷ 8 ∷ [])
order_of (sync b d none) = 6 ∷ []
order_of (sync b d (some p)) = 4 ∷ 5 ∷ 7 ∷ 10 ∷ 9 ∷ 1 ∷ 6 ∷ 2 ∷ 16 ∷ 8 ∷ []
order_of reload = []
order_of (write l ops) = ops_order ops

-- "that decided", "that accepted": of a sync those after it, of any other call those held, which it leaves
pub data Moving : Type 0 where
  neither : Moving
  synced : ℕ → Option Part → Moving

abbrev pub moving_of : Call → Moving
moving_of (query q) = neither
moving_of (append es) = neither
moving_of (append_now es) = neither
moving_of flush = neither
moving_of flush_entries = neither
moving_of (append_stop g) = neither
moving_of (set_stop g) = neither
moving_of (set_promise b) = neither
moving_of (decide i) = neither
moving_of (compact what upto) = neither
moving_of (sync b d p) = synced d p
moving_of reload = neither
moving_of (write l ops) = neither

abbrev pub that_decided : Moving → Numbers → ℕ
that_decided neither n = n.decided
that_decided (synced d p) n = decided_then d n

abbrev pub that_accepted : Moving → Numbers → ℕ
that_accepted neither n = accepted_of n
that_accepted (synced d none) n = accepted_of n
that_accepted (synced d (some p)) n = accepted_then (part_numbers p)

-- what the refusal with a number carries: "without 'that' … the one held before the call, in an operation list too"
unfoldable pub carries_of : Call → Numbers → ℕ → ℕ
carries_of c n number =
    if eqb number 2 then that_decided (moving_of c) n
    else if eqb number 3 then n.compacted
    else if eqb number 4 then accepted_of n
    else if eqb number 5 then n.decided
    else if eqb number 6 then that_accepted (moving_of c) n
    else if eqb number 7 then end_of n
    else if eqb number 9 then accepted_of n
    else if eqb number 10 then n.batched
    else 0
