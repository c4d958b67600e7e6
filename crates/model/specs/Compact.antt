-- Module 6, and of document 02 the one call of E7, told trim or snapshot and an index or all; and E2's hole, which a
-- trim may leave.
use Rattle.std.specs.Prelude.{ℕ, ◌-◌, Bool, true, false, ◌&&◌, List, [], ◌∷◌, ltb, drop, if◌then◌else◌}
use Rattle.std.proofs.Math.Option.{Option, none, some}
use Rattle.entry.specs.Change.{Change}
use Rattle.entry.specs.Guards.{Guard, guard}
use Rattle.entry.specs.declared.Compaction.{Compaction}
use Rattle.entry.specs.declared.Compaction.TheVariants.{Trim, Snapshot}
use Rattle.snapshot.specs.Calls.{fold_guards}
use Rattle.model.specs.Numbers.{Numbers, log_decided}
use Rattle.model.specs.Log.{Log, numbers_of, folded_to, hole, with_run}

-- how far it goes: "below decided, that index; equal, log-decided"; none is "all", "meaning log-decided"
unfoldable pub target : Option ℕ → Numbers → ℕ
target none n = log_decided n
target (some i) n = if ltb i n.decided then i else log_decided n

-- refusal 2: "trim or snapshot index above decided"
abbrev pub past_decided : Option ℕ → Numbers → Bool
past_decided none n = false
past_decided (some i) n = ltb n.decided i

abbrev pub above_decided : Option ℕ → Numbers → Guard
above_decided upto n = guard 2 n.decided (past_decided upto n)

-- "no change unless it passes compacted"
unfoldable pub passes_start : Option ℕ → Log → Bool
passes_start upto s = ltb s.run.compacted (target upto (numbers_of s))

-- all changes below the target, folded
unfoldable pub folded_upto : Option ℕ → Log → List Change
folded_upto upto s = folded_to (target upto (numbers_of s)) s.run

-- refusal 16, of a call that folds onto what the log holds, "just before 8"
abbrev pub onto_guards : Bool → Log → List Change → List Guard
onto_guards folds s made = guard 16 0 (folds && hole s.run) ∷ fold_guards made

-- "2, 16, 8, the last two for snapshots only"
abbrev pub snapshots_only : {A : Type 0} → Compaction → List A → List A
snapshots_only Trim gs = []
snapshots_only Snapshot gs = gs

-- 16 for one "that would fold"; one that does not pass compacted folds nothing
unfoldable pub compact_guards : Compaction → Option ℕ → Log → List Guard
compact_guards what upto s =
    above_decided upto (numbers_of s)
    ∷ snapshots_only what (onto_guards (passes_start upto s) s (if passes_start upto s then folded_upto upto s else []))

-- create_snapshot "reads an index equal to decided the same way"
abbrev pub created : ℕ → Log → List Change
created i s = folded_upto (some i) s

-- "create_snapshot: 3, 2, 8", and 16 "for every creation"
unfoldable pub create_guards : ℕ → Log → List Guard
create_guards i s =
    guard 3 s.run.compacted (ltb i s.run.compacted)
    ∷ above_decided (some i) (numbers_of s)
    ∷ onto_guards true s (created i s)

-- the snapshot that is then held: "a trim that passes compacted drops the held snapshot", a snapshot holds the fold
abbrev pub held_then : Compaction → Option ℕ → Log → Option (List Change)
held_then Trim upto s = none
held_then Snapshot upto s = some (folded_upto upto s)

-- the run from the target on
unfoldable pub compacted_to : Compaction → Option ℕ → Log → Log
compacted_to what upto s =
    let to : ℕ = target upto (numbers_of s) in
    if passes_start upto s
    then with_run (record {
      compacted = to;
      retained = drop (to - s.run.compacted) s.run.retained;
      held = held_then what upto s;
    }) s
    else s
