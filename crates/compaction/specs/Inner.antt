-- What the inner functions say: where a compaction ends, what is then held, and the run's start moved up there.
use Rattle.std.specs.Prelude.{ℕ, ◌+◌, ◌-◌, ◌*◌, ◌≤◌, ◌<◌, ◌≡◌, Bool, true, false, List, [], ◌∷◌, length, take}
use Rattle.std.specs.Prelude.{Option as Optional, Some, None, Result, Ok, Err}
use Rattle.std.proofs.Math.Option.{Option}
use Rattle.words.specs.Words.{laid, spliced}
use Rattle.entry.specs.Limits.{width, log_words}
use Rattle.entry.specs.Change.{Change, Laid}
use Rattle.entry.specs.Guards.{Verdict, passes, refuses, first}
use Rattle.entry.specs.Refusals.{number_of, carried_of}
use Rattle.entry.specs.declared.Refusal.{Refusal}
use Rattle.entry.specs.declared.Compaction.{Compaction}
use Rattle.entry.specs.declared.Compaction.TheVariants.{Trim, Snapshot}
use Rattle.snapshot.specs.Calls.{Outcome, written_by}
use Rattle.model.specs.Log.{Log, folded_to}
use Rattle.model.specs.Compact.{target, above_decided, onto_guards, snapshots_only}
use Rattle.state_cache.specs.State.{Raw, numbers_in, log_of}
use Rattle.state_cache.specs.declared.IndexRecord.{IndexRecord}
use Rattle.state_cache.specs.Inner.{with_run}

abbrev pub past_verdict : Option ℕ → IndexRecord → Verdict
past_verdict upto x = first (above_decided upto (numbers_in x) ∷ [])

-- the run's start stays: the target does not pass it
pub record Stay (upto : Option ℕ) (x : IndexRecord) : Type 0 where
  pub verdict : passes ≡ past_verdict upto x
  pub low : target upto (numbers_in x) ≤ x.compacted.0

-- or it moves up to the target
pub record Up (upto : Option ℕ) (x : IndexRecord) (to : ℕ) : Type 0 where
  pub verdict : passes ≡ past_verdict upto x
  pub is : to ≡ target upto (numbers_in x)
  pub up : x.compacted.0 < to

-- or refusal 2 applies
abbrev pub ReachIs : Option ℕ → IndexRecord → Result (Optional ℕ) Refusal → Type 0
ReachIs upto x (Err r) = refuses (number_of r) (carried_of r) ≡ past_verdict upto x
ReachIs upto x (Ok None) = Stay upto x
ReachIs upto x (Ok (Some to)) = Up upto x to

-- what the move needs of the record and the log's words
pub record Movable (to : ℕ) (x : IndexRecord) (log : List ℕ) : Type 0 where
  pub up : x.compacted.0 ≤ to
  pub within : to ≤ x.compacted.0 + x.retained
  pub laid_out : Laid log_words (x.retained + x.batched) log

-- what it comes to: the record, with the snapshot then held; and the log's words
pub record Moved (to : ℕ) (held : Bool) (keys : ℕ) (x : IndexRecord) (log : List ℕ) (y : IndexRecord)
    (exit : List ℕ) : Type 0 where
  pub index : y ≡ with_run (record { 0 = to }) (x.retained - (to - x.compacted.0)) held keys x
  pub words : exit
      ≡ laid (length log)
      (spliced 0 ((to - x.compacted.0) * width) [] (take ((x.retained + x.batched) * width) log))

-- what is held once the run starts at an index: its changes, none after a trim; whether it is a snapshot
abbrev pub held_at : Compaction → ℕ → Log → List Change
held_at Trim to s = []
held_at Snapshot to s = folded_to to s.run

abbrev pub holds_then : Compaction → Bool
holds_then Trim = false
holds_then Snapshot = true

-- and it written in the snapshot's place, or refusals 16 and 8
abbrev pub held_written : Compaction → ℕ → Raw → Outcome
held_written what to r =
    written_by (first (snapshots_only what (onto_guards true (log_of r) (folded_to to (log_of r).run))))
    (held_at what to (log_of r)) r.snapshot
