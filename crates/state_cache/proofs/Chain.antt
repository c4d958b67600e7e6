-- A chain of calls on lent words is a chain of the model's calls: each leaves a well-formed state that stands for the
-- log after the model's call. And with that demand 3's last sentence, for the calls on lent words from a fresh state.
use Rattle.words.proofs.Prelude.{◌≡◌, refl, sym, ap, ◌∙◌, ℕ, ◌≤◌, Bool, true, false, List, [], ◌∷◌, take, drop}
use Rattle.entry.specs.{Limits.largest_batch, Change.Change}
use Rattle.snapshot.specs.Folds.{fold}
use Rattle.model.specs.{Numbers.end_of, Log.Log, Log.numbers_of, Log.folded_to, Log.hole, Log.fresh_log, Calls.Call}
use Rattle.model.specs.{Calls.Reply, History.next, History.told, History.fresh, History.AllTruthful}
use Rattle.model.proofs.{Keeps.fresh_formed, Traces.history_kept, Traces.retained_kept}
use Rattle.state_cache.specs.{State.Raw, State.formed, State.log_of, State.raw_of, Run.Outcome, Run.run}
use Rattle.state_cache.specs.{Chain.Asked, Chain.runs, Chain.events_of, Chain.events}
use Rattle.state_cache.proofs.Stands.{raw_formed, log_of_raw}
use Rattle.state_cache.proofs.Runs.{not_whole, run_keeps, run_stands}

pub runs_keep : (qs : List Asked) (r : Raw) → formed r ≡ true → formed (runs qs r) ≡ true
unfolding runs
runs_keep [] r ok = ok
runs_keep (a ∷ qs) r ok = runs_keep qs (run a.call a.whole r).after (run_keeps a.call r ok a.whole)

-- one that is no call leaves the state
left : (c : Call) (r : Raw) → formed r ≡ true → (run c false r).after ≡ r
left c r ok = ap (λ (o : Outcome (Reply c)). o.after) (sym (not_whole c false r ok refl))

pub runs_told : (qs : List Asked) (r : Raw) (h : List Change) → formed r ≡ true
    → log_of (runs qs r) ≡ (told (events qs) (record { log = log_of r; history = h })).log
unfolding runs events told
runs_told [] r h ok = refl
runs_told (a ∷ qs) r h ok = step a.whole
    (λ (whole : Bool) (h' : List Change). runs_told qs (run a.call whole r).after h'
    (run_keeps a.call r ok whole))
  where
    step : (whole : Bool)
        → ((whole : Bool) (h' : List Change) → log_of (runs qs (run a.call whole r).after)
        ≡ (told (events qs) (record { log = log_of (run a.call whole r).after; history = h' })).log)
        → log_of (runs qs (run a.call whole r).after)
        ≡ (told (events_of whole a.call a.behind (events qs)) (record { log = log_of r; history = h })).log
    step true ih =
        ih true _
        ∙ ap (λ (s : Log). (told (events qs) (record {
          log = s;
          history = (next
              (record { call = a.call; behind = a.behind }) (record { log = log_of r; history = h })).history;
        })).log)
        (run_stands a.call r ok)
        ∙ (unfold next in refl)
    step false ih = ih false h
        ∙ ap (λ (x : Raw). (told (events qs) (record { log = log_of x; history = h })).log) (left a.call r ok)

-- a fresh state stands for a fresh log
pub runs_fresh : (n : ℕ) → n ≤ largest_batch → (qs : List Asked)
    → log_of (runs qs (raw_of (fresh_log n))) ≡ (told (events qs) (fresh n)).log
unfolding fresh
runs_fresh n h qs =
    runs_told qs (raw_of (fresh_log n)) [] (raw_formed (fresh_log n) (fresh_formed n h))
    ∙ ap (λ (s : Log). (told (events qs) (record { log = s; history = [] })).log)
    (log_of_raw (fresh_log n) (fresh_formed n h))

-- so no state reached from a fresh one by these calls is refused with 12
pub runs_formed : (n : ℕ) → n ≤ largest_batch → (qs : List Asked) → formed (runs qs (raw_of (fresh_log n))) ≡ true
runs_formed n h qs = runs_keep qs (raw_of (fresh_log n)) (raw_formed (fresh_log n) (fresh_formed n h))

-- demand 3's last sentence, in every state without a hole: the held snapshot merged with the retained entries below i
-- is the fold of the history's first i entries
pub history_real : (n : ℕ) → n ≤ largest_batch → (qs : List Asked) → AllTruthful (events qs) (fresh n)
    → hole (log_of (runs qs (raw_of (fresh_log n)))).run ≡ false → (i : ℕ)
    → (log_of (runs qs (raw_of (fresh_log n)))).run.compacted ≤ i
    → i ≤ end_of (numbers_of (log_of (runs qs (raw_of (fresh_log n)))))
    → folded_to i (log_of (runs qs (raw_of (fresh_log n)))).run ≡ fold (take i (told (events qs) (fresh n)).history)
history_real n h qs honest whole i low high =
    rw (runs_fresh n h qs) (history_kept n h (events qs) honest (rw (runs_fresh n h qs) at whole) i
    (rw (runs_fresh n h qs) at low) (rw (runs_fresh n h qs) at high))

-- and in every state the retained entries are the history from compacted on
pub retained_real : (n : ℕ) → n ≤ largest_batch → (qs : List Asked) → AllTruthful (events qs) (fresh n)
    → (log_of (runs qs (raw_of (fresh_log n)))).run.retained
    ≡ drop (log_of (runs qs (raw_of (fresh_log n)))).run.compacted (told (events qs) (fresh n)).history
retained_real n h qs honest = rw (runs_fresh n h qs) (retained_kept n h (events qs) honest)
