-- Module 4: the operation list.
use Rattle.std.specs.Prelude.{ℕ, ◌+◌, ◌-◌, max, Bool, true, ◌&&◌, ◌||◌, not, List, [], ◌∷◌, ◌++◌, ltb, leb, eqb, length, take, drop, if◌then◌else◌}
use Rattle.std.proofs.Math.Option.{Option, none}
use Rattle.words.specs.All.{all_of}
use Rattle.entry.specs.Limits.{entry_room, last_index, most_ops}
use Rattle.entry.specs.Change.{Change, entries_formed}
use Rattle.entry.specs.Sign.{sign_formed}
use Rattle.entry.specs.Guards.{Guard, guard}
use Rattle.entry.specs.declared.Ballot.{Ballot}
use Rattle.entry.specs.declared.StopSign.{StopSign}
use Rattle.model.specs.Numbers.{Numbers, end_of, accepted_of}
use Rattle.model.specs.Log.{Run, Tail, Marks, Log, given, if_given, numbers_of, keys_formed, well_formed}
use Rattle.model.specs.Log.{compacted_at, retaining, holding, signed, deciding, promising, rounding, with_run}
use Rattle.model.specs.Log.{with_tail, with_marks}

-- "those of `StorageOp` but `AppendEntry`"; the last two set what is lent, or none
pub data Op : Type 0 where
  append_entries : Op
  append_on_prefix set_decided set_compacted trim : ℕ → Op
  set_promise set_round : Ballot → Op
  set_sign set_snapshot : Bool → Op

-- "entries, snapshot and stop-sign are lent once beside it; each operation that needs one takes it whole"
pub record Lent : Type 0 where
  pub entries : List Change
  pub snapshot : Option (List Change)
  pub sign : Option StopSign

-- "over eight operations or none", a lent part not in form, or one that an operation needs and that is not lent
abbrev pub supplied : Lent → Op → Bool
supplied l append_entries = true
supplied l (append_on_prefix i) = true
supplied l (set_decided i) = true
supplied l (set_compacted i) = true
supplied l (trim i) = true
supplied l (set_promise b) = true
supplied l (set_round b) = true
supplied l (set_sign t) = not t || given l.sign
supplied l (set_snapshot t) = not t || given l.snapshot

unfoldable pub ops_formed : Lent → List Op → Bool
ops_formed l ops =
    (leb 1 (length ops) && leb (length ops) most_ops)
    && (entries_formed l.entries
    && (if_given keys_formed l.snapshot && (if_given sign_formed l.sign && all_of (supplied l) ops)))

-- a state in the midst of a list: the run's start may not be compacted
pub record Midst : Type 0 where
  pub start : ℕ
  pub log : Log

-- the same with one part set
abbrev pub on_run : Run → Midst → Midst
on_run r m = record { start = m.start; log = with_run r m.log }

abbrev pub on_tail : Tail → Midst → Midst
on_tail t m = record { start = m.start; log = with_tail t m.log }

abbrev pub on_marks : Marks → Midst → Midst
on_marks k m = record { start = m.start; log = with_marks k m.log }

abbrev pub starting_at : ℕ → Midst → Midst
starting_at i m = record { start = i; log = m.log }

-- what an operation does
unfoldable pub step : Lent → Op → Midst → Midst
step l append_entries m = on_run (retaining (m.log.run.retained ++ l.entries) m.log.run) m
step l (append_on_prefix i) m =
    on_run (retaining (take (i - m.start) m.log.run.retained ++ l.entries) m.log.run) m
step l (set_decided i) m = on_marks (deciding i m.log.marks) m
step l (set_compacted i) m = on_run (compacted_at i m.log.run) m
step l (trim i) m =
    starting_at (max m.start i) (on_run (retaining (drop (i - m.start) m.log.run.retained) m.log.run) m)
step l (set_promise b) m = on_marks (promising b m.log.marks) m
step l (set_round b) m = on_marks (rounding b m.log.marks) m
step l (set_sign t) m = on_tail (signed (if t then l.sign else none) m.log.tail) m
step l (set_snapshot t) m = on_run (holding (if t then l.snapshot else none) m.log.run) m

unfoldable pub steps : Lent → List Op → Midst → Midst
steps l [] m = m
steps l (o ∷ ops) m = steps l ops (step l o m)

-- "7, then 1, each judged on the state after the earlier ones"; 7 carries the end held before the call
unfoldable pub step_guards : Numbers → Lent → Op → Midst → List Guard
step_guards n l append_entries m =
    guard 1 0 (ltb entry_room (length m.log.run.retained + length m.log.tail.batched + length l.entries))
    ∷ []
step_guards n l (append_on_prefix i) m =
    guard 7 (end_of n) (ltb i m.start || ltb (m.start + length m.log.run.retained) i)
    ∷ guard 1 0 (ltb entry_room ((i - m.start) + length m.log.tail.batched + length l.entries))
    ∷ []
step_guards n l (set_decided i) m = []
step_guards n l (set_compacted i) m = []
step_guards n l (trim i) m = []
step_guards n l (set_promise b) m = []
step_guards n l (set_round b) m = []
step_guards n l (set_sign t) m = []
step_guards n l (set_snapshot t) m = []

-- "after the last: 9; then 12 if the run's start isn't compacted or the state isn't well formed"
unfoldable pub last_guards : Numbers → Midst → List Guard
last_guards n m =
    guard 9 (accepted_of n) (ltb last_index (accepted_of (numbers_of m.log) + length m.log.tail.batched))
    ∷ guard 12 0 (not (eqb m.start m.log.run.compacted && well_formed m.log))
    ∷ []

unfoldable pub op_guards : Numbers → Lent → List Op → Midst → List Guard
op_guards n l [] m = last_guards n m
op_guards n l (o ∷ ops) m = step_guards n l o m ++ op_guards n l ops (step l o m)

-- the whole list, from a state whose run starts at compacted
abbrev pub midst : Log → Midst
midst s = record { start = s.run.compacted; log = s }

unfoldable pub write_guards : Lent → List Op → Log → List Guard
write_guards l ops s = op_guards (numbers_of s) l ops (midst s)

unfoldable pub list_written : Lent → List Op → Log → Log
list_written l ops s = (steps l ops (midst s)).log
