-- What the inner functions say. In the midst of an operation list: the record and the words, whatever the numbers
-- are, and what an operation comes to; and a lent slice of operations as a list by value.
use Rattle.std.specs.Prelude.{ℕ, ◌+◌, ◌≤◌, ◌≡◌, Bool, true, false, ◌||◌, List, [], ◌∷◌, ◌++◌, ltb, eqb, length, take, set, replicate, if◌then◌else◌}
use Rattle.std.specs.Prelude.{Result, Ok, Err}
use Rattle.std.specs.List.{fold}
use Rattle.std.proofs.Math.Option.{none}
use Rattle.entry.specs.Limits.{entry_room, log_words, snapshot_words, most_ops}
use Rattle.entry.specs.Change.{Change, entries_in, slice_formed, Laid}
use Rattle.entry.specs.Sign.{sign_formed}
use Rattle.entry.specs.Order.{no_ballot}
use Rattle.entry.specs.Guards.{Guard, guard, passes, refuses, first}
use Rattle.entry.specs.Refusals.{number_of, carried_of}
use Rattle.snapshot.specs.Inner.{Holds}
use Rattle.model.specs.Numbers.{Numbers}
use Rattle.model.specs.Log.{if_given, retaining}
use Rattle.model.specs.Backend.{Op, Lent, ops_formed, Midst, on_run, step_guards, step, write_guards, list_written}
use Rattle.state_cache.specs.State.{Raw, raw, sign_held, formed, log_of}
use Rattle.state_cache.specs.Inner.{Ready}
use Rattle.entry.specs.declared.Refusal.{Refusal}
use Rattle.state_cache.specs.declared.IndexRecord.{IndexRecord}
use Rattle.backend.specs.declared.Lent.{Lent as CodeLent}
use Rattle.backend.specs.declared.Op.{Op as CodeOp}
use Rattle.backend.specs.declared.OpKind.TheVariants.{AppendEntries}
use Rattle.backend.specs.declared.OpList.{OpList}
use Rattle.backend.specs.declared.inner.step.Stepped.{Stepped}
use Rattle.backend.specs.Ops.{ops_in, lent_of, incoming_formed}

-- nothing but entries
abbrev pub only_entries : List ℕ → Lent
only_entries entries = record { entries = entries_in entries; snapshot = none; sign = none }

-- what an operation that may say none sets: the snapshot's key count and its words
abbrev pub asked_keys : Bool → ℕ → ℕ
asked_keys given n = if given then n else 0

abbrev pub asked_words : Bool → List ℕ → List ℕ
asked_words given ws = if given then ws else replicate snapshot_words 0

-- the run's start, and the log that the record and the words stand for
abbrev pub midst_of : ℕ → Raw → Midst
midst_of start r = record { start = start; log = log_of r }

-- what every operation keeps: "order, places and zeros as above", and room
pub record Kept (r : Raw) : Type 0 where
  pub log : Laid log_words (r.index.retained + r.index.batched) r.log
  pub snapshot : Holds snapshot_words r.index.keys r.snapshot
  pub none_held : (r.index.snapshot_held || eqb r.index.keys 0) ≡ true
  pub sign : sign_held r.index ≡ true

-- the run cut after its first `at` entries, and others put there; refusal 1, of n entries
abbrev pub rejoined : ℕ → List Change → Midst → Midst
rejoined at es m = on_run (retaining (take at m.log.run.retained ++ es) m.log.run) m

abbrev pub room_guards : ℕ → ℕ → Midst → List Guard
room_guards at n m = guard 1 0 (ltb entry_room (at + length m.log.tail.batched + n)) ∷ []

-- an operation that stands, with the record and the words after it
pub record Came (gs : List Guard) (next : Midst) (s : Stepped) (log snapshot : List ℕ) : Type 0 where
  pub stands : passes ≡ first gs
  pub after : midst_of s.start (raw s.index log snapshot) ≡ next
  pub kept : Kept (raw s.index log snapshot)

-- what an operation comes to: the first refusal that applies, or where none does the state after it
abbrev pub Goes : List Guard → Midst → Result Stepped Refusal → List ℕ → List ℕ → Type 0
Goes gs next (Ok s) log snapshot = Came gs next s log snapshot
Goes gs next (Err r) log snapshot = refuses (number_of r) (carried_of r) ≡ first gs

abbrev pub Steps : Numbers → Lent → Op → Midst → Result Stepped Refusal → List ℕ → List ℕ → Type 0
Steps n l o m s log snapshot = Goes (step_guards n l o m) (step l o m) s log snapshot

-- what is known of the parts that are lent beside a list in form
pub record Lends (b : CodeLent) (entries incoming : List ℕ) : Type 0 where
  pub whole : slice_formed entries ≡ true
  pub snapshot : incoming_formed b incoming ≡ true
  pub sign : if_given sign_formed (lent_of b entries incoming).sign ≡ true

-- what a list needs to run: a well-formed state, and a request in form
pub record Listed (r : Raw) (b : CodeLent) (entries incoming : List ℕ) (list : OpList) : Type 0 where
  pub ready : Ready r
  pub lends : Lends b entries incoming
  pub few : list.count ≤ most_ops
  pub okay : ops_formed (lent_of b entries incoming) (ops_in list) ≡ true

-- a list that stands leaves a well-formed state that stands for what it wrote
pub record Stood (r : Raw) (l : Lent) (ops : List Op) (x : Raw) : Type 0 where
  pub stands : passes ≡ first (write_guards l ops (log_of r))
  pub formed : formed x ≡ true
  pub after : log_of x ≡ list_written l ops (log_of r)

-- what it comes to: the first refusal that applies, or where none does the state after it
abbrev pub Wrote : Raw → Lent → List Op → Result IndexRecord Refusal → List ℕ → List ℕ → Type 0
Wrote r l ops (Ok x) log snapshot = Stood r l ops (raw x log snapshot)
Wrote r l ops (Err f) log snapshot = refuses (number_of f) (carried_of f) ≡ first (write_guards l ops (log_of r))

-- what stands past the end of a list
abbrev pub no_op : CodeOp
no_op = record { kind = AppendEntries; index = record { 0 = 0 }; ballot = no_ballot; given = false }

-- a lent slice of operations as a list by value: each is put in turn, and one too many is counted and not kept
abbrev pub no_ops : OpList
no_ops = record { count = 0; ops = replicate most_ops no_op }

unfoldable pub put_of : OpList → CodeOp → OpList
put_of l o =
    if ltb l.count most_ops then record { count = l.count + 1; ops = set l.ops l.count o }
    else record { count = most_ops + 1; ops = l.ops }

abbrev pub put_all : OpList → List CodeOp → OpList
put_all l os = fold put_of l os
