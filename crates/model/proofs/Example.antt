-- The history theorem's premise can be met: a trace with appends, a snapshot, a plain, a complete and a delta sync, a
-- trim that makes a hole, what is refused for that, and the complete sync that mends it.
use Rattle.words.proofs.Prelude.{arith, ◌≡◌, refl, ℕ, true, Option, none, some, List, [], ◌∷◌, ◌++◌, take}
use mathlib.Core.Option.{or_else}
use Rattle.words.specs.All.{all_of}
use Rattle.entry.specs.{Change.place, Change.removed, Change.Change, Sign.sign_formed, Order.no_ballot}
use Rattle.entry.specs.{Guards.passes, Guards.refuses, Guards.first}
use Rattle.entry.specs.declared.Compaction.TheVariants.{Snapshot}
use Rattle.snapshot.specs.Folds.{insert, fold_onto, fold, merge, climbs, rising, find, last_of}
use Rattle.model.specs.Numbers.{end_of, accepted_of, stop_decided, log_decided, numbers_formed}
use Rattle.model.specs.Log.{Run, Log, folded_to, keys_formed, well_formed, fresh_log}
use Rattle.model.specs.Append.{append_guards, fills, appended}
use Rattle.model.specs.Backend.{ops_formed}
use Rattle.model.specs.Compact.{target, passes_start, folded_upto, compact_guards, compacted_to}
use Rattle.model.specs.Diff.{Given, plain, complete, delta}
use Rattle.model.specs.Lookup.{lookup_reply}
use Rattle.model.specs.Sync.{part_formed, delta_onto, run_then, part_number_guards, part_guards, part_synced}
use Rattle.model.specs.Calls.{Call, append, decide, compact, sync, write, malformed, decide_guards}
use Rattle.model.specs.Calls.{sync_guards, further, guards, synced, effect, state_after}
use Rattle.model.specs.History.{synced_history, grown, Stands, Event, next, told, AllTruthful, fresh}
use Rattle.model.specs.Cases.{put, del, trim}

abbrev says : Call → Event
says c = record { call = c; behind = [] }

abbrev syncs : ℕ → ℕ → Given → List Change → List Change → Event
syncs d i g es x =
    record { call = sync no_ballot d (some (record { idx = i; snapshot = g; suffix = es; stop = none })); behind = x }

-- to a delta: 8 at 800 is undecided when it comes, and no part of its base
abbrev to_delta : List Event
to_delta =
    says (append (put 9 100 ∷ put 4 200 ∷ []))
    ∷ says (decide 2)
    ∷ says (compact Snapshot none)
    ∷ syncs 3 2 plain (del 9 ∷ put 8 800 ∷ []) []
    ∷ says (trim 9)
    ∷ syncs 5 5 (delta (put 6 600 ∷ put 7 700 ∷ [])) (put 5 500 ∷ []) (put 7 700 ∷ put 6 600 ∷ [])
    ∷ []

-- on to a complete sync
abbrev to_complete : List Event
to_complete =
    to_delta
    ++ (says (write (record { entries = []; snapshot = none; sign = none }) [])
    ∷ syncs 6 6 (complete (put 1 10 ∷ del 4 ∷ [])) (put 4 400 ∷ [])
    (put 1 10 ∷ put 4 1 ∷ put 4 2 ∷ put 4 3 ∷ put 4 4 ∷ del 4 ∷ [])
    ∷ [])

-- to a hole: a trim that passes compacted
abbrev to_hole : List Event
to_hole = to_complete ++ (says (append (put 2 20 ∷ put 3 30 ∷ [])) ∷ says (decide 8) ∷ says (trim 7) ∷ [])

-- what would fold onto it is refused; a complete sync mends it, and a snapshot folds again
abbrev trace : List Event
trace =
    to_hole
    ++ (says (compact Snapshot none)
    ∷ syncs 9 9 (delta []) [] []
    ∷ syncs 9 9 (complete (put 2 20 ∷ put 3 30 ∷ [])) (del 2 ∷ [])
    (put 2 1 ∷ put 2 2 ∷ put 2 3 ∷ put 2 4 ∷ put 2 5 ∷ put 2 6 ∷ put 2 7 ∷ put 2 20 ∷ put 3 30 ∷ [])
    ∷ says (decide 10)
    ∷ says (compact Snapshot none)
    ∷ [])

pub premise_met : AllTruthful trace (fresh 0)
unfolding AllTruthful Stands all_of sign_formed first insert fold_onto fold merge climbs rising end_of accepted_of
    stop_decided log_decided numbers_formed folded_to keys_formed well_formed fresh_log append_guards fills appended target
    passes_start folded_upto compact_guards compacted_to ops_formed part_formed delta_onto
    run_then part_number_guards part_guards part_synced malformed decide_guards sync_guards further guards synced effect
    state_after synced_history grown next told fresh
premise_met =
    also (λ q. plainly) (also (λ q. plainly) (also (λ q. plainly) (also (λ q. plainly)
    (also (λ q. absurd (never 2 3 q)) (also (λ q. (refl, (refl, refl))) (also (λ q. absurd (never 11 0 q))
    (also (λ q. (refl, (refl, refl))) (also (λ q. plainly) (also (λ q. plainly) (also (λ q. plainly)
    (also (λ q. absurd (never 16 0 q)) (also (λ q. absurd (never 16 0 q)) (also (λ q. (refl, (refl, refl)))
    (also (λ q. plainly) (also (λ q. plainly) tt)))))))))))))))
  where
    also : {A B : Type 0} → A → B → A × B
    also a b = (a, b)

    plainly : (true ≡ true) × Unit {0}
    plainly = (refl, tt)

    never : (n k : ℕ) → refuses n k ≡ passes → ⊥
    never n k z = let y : ◌≡◌ {A = ℕ} 0 1 = cc in omega arith

-- what is held on the way: compacted, the retained entries, and the snapshot; and what is refused at the hole
abbrev run_at : ℕ → List Change → Option (List Change) → Run
run_at c r h = record { compacted = c; retained = r; held = h }

abbrev after : List Event → Log
after es = (told es (fresh 0)).log

pub on_the_way : ((after to_delta).run
    ≡ run_at 5 (put 5 500 ∷ []) (some (put 4 200 ∷ put 6 600 ∷ put 7 700 ∷ del 9 ∷ [])))
    × ((after to_complete).run ≡ run_at 6 (put 4 400 ∷ []) (some (put 1 10 ∷ del 4 ∷ [])))
    × ((after to_hole).run ≡ run_at 7 (put 2 20 ∷ put 3 30 ∷ []) none)
    × (first (guards (compact Snapshot none) (after to_hole)) ≡ refuses 16 0)
    × ((after trace).run ≡ run_at 10 [] (some (del 2 ∷ put 3 30 ∷ [])))
unfolding all_of sign_formed first insert fold_onto fold merge climbs rising end_of accepted_of stop_decided
    log_decided numbers_formed folded_to keys_formed well_formed fresh_log append_guards fills appended target passes_start
    folded_upto compact_guards compacted_to ops_formed part_formed delta_onto run_then
    part_number_guards part_guards part_synced malformed decide_guards sync_guards further guards synced effect state_after
    synced_history grown next told fresh
on_the_way = (refl, refl, refl, refl, refl)

-- what is looked up on the way: a key removed and one put below the decided index, and one that is not decided; at the
-- hole one that is retained, and one that is lost, of which the history still says its place
pub looked_up : (lookup_reply 9 (after to_delta) ≡ some removed)
    × (lookup_reply 4 (after to_delta) ≡ some (place 200))
    × (lookup_reply 5 (after to_delta) ≡ none)
    × (lookup_reply 2 (after to_hole) ≡ some (place 20))
    × (lookup_reply 1 (after to_hole) ≡ none)
    × (find 1 (fold (take 8 (told to_hole (fresh 0)).history)) ≡ some (place 10))
unfolding lookup_reply or_else last_of find all_of sign_formed first insert fold_onto fold merge climbs rising end_of
    accepted_of stop_decided log_decided numbers_formed folded_to keys_formed well_formed fresh_log append_guards fills appended
    target passes_start folded_upto compact_guards compacted_to ops_formed part_formed delta_onto run_then
    part_number_guards part_guards part_synced malformed decide_guards sync_guards further guards synced effect state_after
    synced_history grown next told fresh
looked_up = (refl, refl, refl, refl, refl, refl)
