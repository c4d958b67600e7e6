-- What a lookup on lent words replies after any list of calls from a fresh log: place and removed are what the fold of
-- the history's decided part says, and unknown is that where there is no hole.
use Rattle.words.proofs.Prelude.{◌≡◌, sym, ap, ◌∙◌, ℕ, ◌≤◌, true, false, some, List, take}
use Rattle.entry.specs.{Limits.largest_batch, Change.Said, Change.Change, Guards.replied}
use Rattle.snapshot.specs.Folds.{fold, find}
use Rattle.model.specs.{Numbers.log_decided, Log.numbers_of, Log.hole, Log.fresh_log, Lookup.lookup_reply, Calls.query}
use Rattle.model.specs.{Calls.lookup, History.told, History.fresh, History.AllTruthful}
use Rattle.model.proofs.Finds.{lookup_finds, lookup_tells}
use Rattle.state_cache.specs.{State.Raw, State.log_of, State.raw_of, Run.run, Chain.Asked, Chain.runs, Chain.events}
use Rattle.state_cache.proofs.Chain.{runs_fresh, runs_formed}
use Rattle.reading.proofs.Answers.{lookup_answer}

module _ (n : ℕ) (sized : n ≤ largest_batch) (qs : List Asked) (honest : AllTruthful (events qs) (fresh n)) (k : ℕ) where
  abbrev reached : Raw
  reached = runs qs (raw_of (fresh_log n))

  abbrev decided_part : List Change
  decided_part = take (log_decided (numbers_of (log_of reached))) (told (events qs) (fresh n)).history

  reply_is : (run (query (lookup k)) true reached).answer ≡ replied (lookup_reply k (log_of reached))
  reply_is = lookup_answer reached (runs_formed n sized qs) k

  pub finds_real : hole (log_of reached).run ≡ false
      → (run (query (lookup k)) true reached).answer ≡ replied (find k (fold decided_part))
  finds_real whole =
      reply_is
      ∙ ap replied (rw (runs_fresh n sized qs)
      (lookup_finds n sized (events qs) honest k (rw (runs_fresh n sized qs) at whole)))

  pub tells_real : (w : Said) → (run (query (lookup k)) true reached).answer ≡ replied (some w)
      → find k (fold decided_part) ≡ some w
  tells_real w e =
      let y : replied (lookup_reply k (log_of reached)) ≡ replied (some w) = sym reply_is ∙ e in
      let z : lookup_reply k (log_of reached) ≡ some w = cc in
      rw (runs_fresh n sized qs)
      (lookup_tells n sized (events qs) honest k w (rw (runs_fresh n sized qs) at z))
