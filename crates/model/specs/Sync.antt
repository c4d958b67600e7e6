-- Module 8: a leader's sync.
use Rattle.std.specs.Prelude.{ℕ, ◌+◌, ◌-◌, max, Bool, true, false, ◌&&◌, ◌||◌, not, List, [], ◌∷◌, ◌++◌, ltb, length, take, if◌then◌else◌}
use Rattle.std.proofs.Math.Option.{Option, some}
use Rattle.entry.specs.Limits.{entry_room, last_index}
use Rattle.entry.specs.Change.{Change, entries_formed}
use Rattle.entry.specs.Sign.{sign_formed}
use Rattle.entry.specs.Guards.{Guard, guard}
use Rattle.entry.specs.declared.Ballot.{Ballot}
use Rattle.entry.specs.declared.StopSign.{StopSign}
use Rattle.snapshot.specs.Folds.{merge}
use Rattle.model.specs.Numbers.{Numbers, end_of, accepted_of, stop_decided, log_decided}
use Rattle.model.specs.Log.{Run, Log, given, if_given, numbers_of, folded_to, keys_formed, signed, deciding, rounding}
use Rattle.model.specs.Log.{with_marks}
use Rattle.model.specs.Compact.{onto_guards}
use Rattle.model.specs.Diff.{Given, plain, complete, delta, snapshot_in}

-- a sync's log part
pub record Part : Type 0 where
  pub idx : ℕ
  pub snapshot : Given
  pub suffix : List Change
  pub stop : Option StopSign

unfoldable pub part_formed : Part → Bool
part_formed p =
    if_given keys_formed (snapshot_in p.snapshot) && (entries_formed p.suffix && if_given sign_formed p.stop)

abbrev pub plain? : Given → Bool
plain? plain = true
plain? (complete c) = false
plain? (delta d) = false

abbrev pub delta? : Given → Bool
delta? plain = false
delta? (complete c) = false
delta? (delta d) = true

-- what its refusals look at, all but the fold's
pub record PartNumbers : Type 0 where
  pub idx : ℕ
  pub plain : Bool
  pub count : ℕ
  pub stop : Bool

abbrev pub part_numbers : Part → PartNumbers
part_numbers p = record {
  idx = p.idx;
  plain = plain? p.snapshot;
  count = length p.suffix;
  stop = given p.stop;
}

-- "a delta's base is folded to the log-decided index held before the call"
unfoldable pub delta_onto : List Change → Log → List Change
delta_onto d s = merge (folded_to (log_decided (numbers_of s)) s.run) d

-- "A snapshot replaces all entries below sync_idx; the suffix replaces those from there"
unfoldable pub run_then : Part → Log → Run
run_then p s =
    elim p.snapshot [
      | plain ↦ record {
        compacted = s.run.compacted;
        retained = take (p.idx - s.run.compacted) s.run.retained ++ p.suffix;
        held = s.run.held;
      }
      | complete c ↦ record { compacted = p.idx; retained = p.suffix; held = some c }
      | delta d ↦ record { compacted = p.idx; retained = p.suffix; held = some (delta_onto d s) }
    ]

-- "decided becomes the larger"; the accepted index after the call, and how many of the retained entries stay
abbrev pub decided_then : ℕ → Numbers → ℕ
decided_then d n = max d n.decided

abbrev pub accepted_then : PartNumbers → ℕ
accepted_then a = a.idx + a.count + (if a.stop then 1 else 0)

abbrev pub kept_then : PartNumbers → Numbers → ℕ
kept_then a n = if a.plain then a.idx - n.compacted else 0

-- "Sync with log part: 4, 5, 7, 10, 9, 1, 6, 2, 8": those that look at numbers, then 16, and the fold's
unfoldable pub part_number_guards : ℕ → PartNumbers → Numbers → List Guard
part_number_guards d a n =
    guard 4 (accepted_of n) (stop_decided n)
    ∷ guard 5 n.decided (ltb a.idx n.decided)
    ∷ guard 7 (end_of n) (a.plain && (ltb a.idx n.compacted || ltb (end_of n) a.idx))
    ∷ guard 10 n.batched (a.stop && ltb 0 n.batched)
    ∷ guard 9 (accepted_of n) (ltb last_index (accepted_then a + n.batched))
    ∷ guard 1 0 (ltb entry_room (kept_then a n + a.count + n.batched))
    ∷ guard 6 (accepted_then a) (ltb (accepted_then a) (decided_then d n))
    ∷ guard 2 (decided_then d n) (not a.plain && ltb (decided_then d n) a.idx)
    ∷ []

-- refusal 8's fold: only a delta makes one; and 16 is "for every … delta sync"
abbrev pub fold_then : Given → Log → List Change
fold_then plain s = []
fold_then (complete c) s = []
fold_then (delta d) s = delta_onto d s

unfoldable pub part_guards : ℕ → Part → Log → List Guard
part_guards d p s =
    part_number_guards d (part_numbers p) (numbers_of s)
    ++ onto_guards (delta? p.snapshot) s (fold_then p.snapshot s)

-- "without: 6"
unfoldable pub round_guards : ℕ → Numbers → List Guard
round_guards d n = guard 6 (accepted_of n) (ltb (accepted_of n) (decided_then d n)) ∷ []

-- the round and the decided index, and of a log part the run and the stop-sign, "or none. The batch stays"
abbrev pub marks_then : Ballot → ℕ → Log → Log
marks_then b d s = with_marks (rounding b (deciding (decided_then d (numbers_of s)) s.marks)) s

unfoldable pub part_synced : Ballot → ℕ → Part → Log → Log
part_synced b d p s = record { run = run_then p s; tail = signed p.stop s.tail; marks = (marks_then b d s).marks }
