-- The state of a log as document 01 has it, with no word of slices. Ballots and stop-signs are the code's own
-- structs: no call looks into them but by `sign_formed`.
use Rattle.std.specs.Prelude.{ℕ, ◌-◌, Bool, true, false, ◌&&◌, not, List, [], leb, ltb, length, take}
use Rattle.std.proofs.Math.Option.{Option, none, some}
use Rattle.entry.specs.Limits.{key_room}
use Rattle.entry.specs.Change.{Change, entries_formed}
use Rattle.entry.specs.Sign.{sign_formed}
use Rattle.entry.specs.Order.{no_ballot}
use Rattle.entry.specs.declared.Ballot.{Ballot}
use Rattle.entry.specs.declared.StopSign.{StopSign}
use Rattle.snapshot.specs.Folds.{merge, rising}
use Rattle.model.specs.Numbers.{Numbers, numbers_formed}

-- the held run: where it starts, its entries, and the snapshot of what came before, if one is held
pub record Run : Type 0 where
  pub compacted : ℕ
  pub retained : List Change
  pub held : Option (List Change)

-- what comes after it: the batch, at which size it is flushed, and the stop-sign, if one is held
pub record Tail : Type 0 where
  pub batched : List Change
  pub size : ℕ
  pub sign : Option StopSign

pub record Marks : Type 0 where
  pub decided : ℕ
  pub promise : Ballot
  pub round : Ballot

pub record Log : Type 0 where
  pub run : Run
  pub tail : Tail
  pub marks : Marks

abbrev pub given : {A : Type 0} → Option A → Bool
given none = false
given (some a) = true

abbrev pub numbers_of : Log → Numbers
numbers_of s = record {
  compacted = s.run.compacted;
  decided = s.marks.decided;
  retained = length s.run.retained;
  batched = length s.tail.batched;
  size = s.tail.size;
  stop = given s.tail.sign;
}

-- the snapshot held, empty if none is; and with the retained entries below an index
abbrev pub or_empty : Option (List Change) → List Change
or_empty none = []
or_empty (some s) = s

unfoldable pub folded_to : ℕ → Run → List Change
folded_to i r = merge (or_empty r.held) (take (i - r.compacted) r.retained)

-- "A log with compacted above 0 and no snapshot has a hole"
abbrev pub hole : Run → Bool
hole r = ltb 0 r.compacted && not (given r.held)

-- forms: of a snapshot, of what may be given, and of a whole state
unfoldable pub keys_formed : List Change → Bool
keys_formed s = rising s && (leb (length s) key_room && entries_formed s)

abbrev pub if_given : {A : Type 0} → (A → Bool) → Option A → Bool
if_given f none = true
if_given f (some a) = f a

unfoldable pub well_formed : Log → Bool
well_formed s =
    numbers_formed (numbers_of s)
    && (entries_formed s.run.retained
    && (entries_formed s.tail.batched && (if_given keys_formed s.run.held && if_given sign_formed s.tail.sign)))

-- parts with one field set, and states with one part set
abbrev pub compacted_at : ℕ → Run → Run
compacted_at i r = record { compacted = i; retained = r.retained; held = r.held }

abbrev pub retaining : List Change → Run → Run
retaining es r = record { compacted = r.compacted; retained = es; held = r.held }

abbrev pub holding : Option (List Change) → Run → Run
holding h r = record { compacted = r.compacted; retained = r.retained; held = h }

abbrev pub waiting : List Change → Tail → Tail
waiting es t = record { batched = es; size = t.size; sign = t.sign }

abbrev pub signed : Option StopSign → Tail → Tail
signed g t = record { batched = t.batched; size = t.size; sign = g }

abbrev pub deciding : ℕ → Marks → Marks
deciding i m = record { decided = i; promise = m.promise; round = m.round }

abbrev pub promising : Ballot → Marks → Marks
promising b m = record { decided = m.decided; promise = b; round = m.round }

abbrev pub rounding : Ballot → Marks → Marks
rounding b m = record { decided = m.decided; promise = m.promise; round = b }

abbrev pub with_run : Run → Log → Log
with_run r s = record { run = r; tail = s.tail; marks = s.marks }

abbrev pub with_tail : Tail → Log → Log
with_tail t s = record { run = s.run; tail = t; marks = s.marks }

abbrev pub with_marks : Marks → Log → Log
with_marks m s = record { run = s.run; tail = s.tail; marks = m }

-- "A fresh log has the batch size asked for, no snapshot, no stop-sign, and every index, count, ballot … zero"
unfoldable pub fresh_log : ℕ → Log
fresh_log n = record {
  run = record { compacted = 0; retained = []; held = none };
  tail = record { batched = []; size = n; sign = none };
  marks = record { decided = 0; promise = no_ballot; round = no_ballot };
}
