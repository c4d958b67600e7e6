-- The history of a log as document 01 defines it, and a run of calls with what their syncs stand for.
use Rattle.std.specs.Prelude.{ℕ, ◌-◌, ◌≡◌, Bool, true, false, List, [], ◌∷◌, ◌++◌, length, take, if◌then◌else◌}
use Rattle.std.proofs.Math.Option.{none, some}
use Rattle.entry.specs.Change.{Change}
use Rattle.entry.specs.Guards.{Verdict, passes, refuses, first}
use Rattle.snapshot.specs.Folds.{fold}
use Rattle.model.specs.Numbers.{log_decided}
use Rattle.model.specs.Log.{Log, numbers_of, fresh_log}
use Rattle.model.specs.Append.{fills, batch_with}
use Rattle.model.specs.Diff.{plain, complete, delta}
use Rattle.model.specs.Sync.{Part}
use Rattle.model.specs.Orders.{Moving, neither, synced, moving_of}
use Rattle.model.specs.Calls.{Call, query, append, append_now, flush, flush_entries, append_stop, set_stop}
use Rattle.model.specs.Calls.{set_promise, decide, compact, sync, reload, write, guards, state_after}

-- "A plain sync keeps the first sync_idx and joins the suffix. A complete sync stands for a list of sync_idx entries,
-- a delta for sync_idx less log-decided (as held before the call) of them, following our first log-decided; then the
-- suffix." x is that list
unfoldable pub synced_history : Part → List Change → Log → List Change → List Change
synced_history p x s h =
    elim p.snapshot [
      | plain ↦ take p.idx h ++ p.suffix
      | complete c ↦ x ++ p.suffix
      | delta d ↦ (take (log_decided (numbers_of s)) h ++ x) ++ p.suffix
    ]

-- "appended entries join when flushed, unbatched ones at once"
unfoldable pub grown : Call → List Change → Log → List Change → List Change
grown (query q) x s h = h
grown (append es) x s h = if fills es s then h ++ batch_with es s else h
grown (append_now es) x s h = h ++ es
grown flush x s h = h ++ s.tail.batched
grown flush_entries x s h = h ++ s.tail.batched
grown (append_stop g) x s h = h ++ s.tail.batched
grown (set_stop g) x s h = h
grown (set_promise b) x s h = h
grown (decide i) x s h = h
grown (compact what upto) x s h = h
grown (sync b d none) x s h = h
grown (sync b d (some p)) x s h = synced_history p x s h
grown reload x s h = h
grown (write l ops) x s h = h

-- "each accepted sync's snapshot is the fold of the entries it stands for", and they are as many as document 01 says
unfoldable pub Stands : Part → List Change → Log → Type 0
Stands p x s =
    elim p.snapshot [
      | plain ↦ Unit {0}
      | complete c ↦ (length x ≡ p.idx) × (c ≡ fold x)
      | delta d ↦ (length x ≡ p.idx - log_decided (numbers_of s)) × (d ≡ fold x)
    ]

-- "none … an operation list or a reload"; document 02: "Demand 3 then admits trims"
abbrev pub admitted : Call → Bool
admitted (query q) = true
admitted (append es) = true
admitted (append_now es) = true
admitted flush = true
admitted flush_entries = true
admitted (append_stop g) = true
admitted (set_stop g) = true
admitted (set_promise b) = true
admitted (decide i) = true
admitted (compact what upto) = true
admitted (sync b d p) = true
admitted reload = false
admitted (write l ops) = false

abbrev pub Honest : Moving → List Change → Log → Type 0
Honest neither x s = Unit {0}
Honest (synced d none) x s = Unit {0}
Honest (synced d (some p)) x s = Stands p x s

abbrev pub Truthful : Call → List Change → Log → Type 0
Truthful c x s = (admitted c ≡ true) × Honest (moving_of c) x s

-- a call, and the list that its sync's snapshot stands for (of no account elsewhere)
pub record Event : Type 0 where
  pub call : Call
  pub behind : List Change

pub record Told : Type 0 where
  pub log : Log
  pub history : List Change

abbrev pub history_after : Verdict → List Change → List Change → List Change
history_after passes new h = new
history_after (refuses n k) new h = h

unfoldable pub next : Event → Told → Told
next e t = record {
  log = state_after e.call t.log;
  history =
      history_after (first (guards e.call t.log)) (grown e.call e.behind t.log t.history) t.history;
}

-- "each call is given the state … that the one before left"
unfoldable pub told : List Event → Told → Told
told [] t = t
told (e ∷ es) t = told es (next e t)

-- every call that stands is truthful; refused ones may be any
unfoldable pub AllTruthful : List Event → Told → Type 0
AllTruthful [] t = Unit {0}
AllTruthful (e ∷ es) t =
    (first (guards e.call t.log) ≡ passes → Truthful e.call e.behind t.log) × AllTruthful es (next e t)

-- "History: it starts empty"
unfoldable pub fresh : ℕ → Told
fresh n = record { log = fresh_log n; history = [] }
