-- Module 3: appends, the stop-sign, flushes and reload.
use Rattle.std.specs.Prelude.{ℕ, ◌+◌, Bool, ◌&&◌, List, [], ◌∷◌, ◌++◌, ltb, leb, eqb, length, if◌then◌else◌}
use Rattle.std.proofs.Math.Option.{Option, none, some}
use Rattle.entry.specs.Limits.{entry_room, last_index}
use Rattle.entry.specs.Change.{Change}
use Rattle.entry.specs.Guards.{Guard, guard}
use Rattle.entry.specs.declared.StopSign.{StopSign}
use Rattle.model.specs.Numbers.{Numbers, end_of, accepted_of, stop_decided}
use Rattle.model.specs.Log.{Log, numbers_of, retaining, waiting, signed, with_tail}

-- "Appends: 4, 9, 1", of k entries
unfoldable pub append_guards : ℕ → Numbers → List Guard
append_guards k n =
    guard 4 (accepted_of n) n.stop
    ∷ guard 9 (accepted_of n) (ltb last_index (accepted_of n + n.batched + k))
    ∷ guard 1 0 (ltb entry_room (n.retained + n.batched + k))
    ∷ []

-- "append_stopsign: 4, 9"
unfoldable pub append_stop_guards : Numbers → List Guard
append_stop_guards n =
    guard 4 (accepted_of n) n.stop ∷ guard 9 (accepted_of n) (ltb last_index (accepted_of n + n.batched + 1)) ∷ []

-- "set_stopsign: 4, 10, 9", of a stop-sign or none
unfoldable pub set_stop_guards : Bool → Numbers → List Guard
set_stop_guards new n =
    guard 4 (accepted_of n) (stop_decided n)
    ∷ guard 10 n.batched (new && ltb 0 n.batched)
    ∷ guard 9 (accepted_of n) (ltb last_index (end_of n + (if new then 1 else 0) + n.batched))
    ∷ []

-- entries joined to the run, and the batch after that
abbrev pub joined : List Change → List Change → Log → Log
joined new batch s =
    record { run = retaining (s.run.retained ++ new) s.run; tail = waiting batch s.tail; marks = s.marks }

-- "append adds to the batch; if its length is then at or above the batch size, all of it flushes"
abbrev pub batch_with : List Change → Log → List Change
batch_with es s = s.tail.batched ++ es

unfoldable pub fills : List Change → Log → Bool
fills es s = leb s.tail.size (length (batch_with es s))

unfoldable pub appended : List Change → Log → Log
appended es s = if fills es s then joined (batch_with es s) [] s else with_tail (waiting (batch_with es s) s.tail) s

unfoldable pub appended_now : List Change → Log → Log
appended_now es s = joined es s.tail.batched s

unfoldable pub flushed : Log → Log
flushed s = joined s.tail.batched [] s

unfoldable pub stop_appended : StopSign → Log → Log
stop_appended g s = with_tail (signed (some g) (flushed s).tail) (flushed s)

unfoldable pub stop_set : Option StopSign → Log → Log
stop_set g s = with_tail (signed g s.tail) s

-- "the batch is dropped …, the rest stays, and accepted is the reply"
unfoldable pub reloaded : Log → Log
reloaded s = with_tail (waiting [] s.tail) s

-- what was flushed: the accepted index after it, and how many entries; they are the last so many of those retained
pub record Flushed : Type 0 where
  pub accepted : ℕ
  pub count : ℕ

unfoldable pub append_reply : List Change → Log → Option Flushed
append_reply es s =
    if fills es s
    then some (record { accepted = accepted_of (numbers_of (appended es s)); count = length (batch_with es s) })
    else none

-- nothing where the batch is empty; the accepted index does not count a stop-sign that the call appends
unfoldable pub flush_reply : Log → Option Flushed
flush_reply s =
    if eqb (length s.tail.batched) 0 then none
    else some (record { accepted = accepted_of (numbers_of (flushed s)); count = length s.tail.batched })
