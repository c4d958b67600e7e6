-- What "all" is in a compaction: the decided index, without refusal 2.
use Rattle.words.proofs.Prelude.{arith, ◌≡◌, refl, none, some, [], le-ltb, if◌then◌else◌}
use Rattle.entry.specs.{Guards.first, declared.Compaction.Compaction, declared.Compaction.TheVariants.Trim}
use Rattle.entry.specs.{declared.Compaction.TheVariants.Snapshot}
use Rattle.model.specs.Log.{Log}
use Rattle.model.specs.Compact.{target, passes_start, folded_upto, onto_guards, snapshots_only, compact_guards}
use Rattle.model.specs.Compact.{compacted_to}
use Rattle.model.specs.Calls.{compact, malformed, further, guards, effect, reply_of, answer_to, state_after}

-- the answer and the state after it are those of the decided index, which stands for log-decided
pub all_decided : (what : Compaction) (s : Log)
    → (answer_to (compact what none) s ≡ answer_to (compact what (some s.marks.decided)) s)
    × (state_after (compact what none) s ≡ state_after (compact what (some s.marks.decided)) s)
unfolding target passes_start folded_upto compact_guards compacted_to malformed further guards effect reply_of answer_to
    state_after
all_decided Trim s = rw (le-ltb s.marks.decided s.marks.decided (omega arith)) (refl, refl)
all_decided Snapshot s = rw (le-ltb s.marks.decided s.marks.decided (omega arith)) (refl, refl)

-- what is left to refuse it for, on a well-formed log: 16 and 8, for snapshots only
pub all_past_2 : (what : Compaction) (s : Log) → first (further (compact what none) s)
    ≡ first (snapshots_only what
    (onto_guards (passes_start none s) s (if passes_start none s then folded_upto none s else [])))
unfolding further compact_guards first
all_past_2 what s = refl
