-- What a lookup tells is what the fold of the history's decided part says: place and removed in every state, unknown on
-- a log without a hole.
use Rattle.words.proofs.Prelude.{arith, ◌≡◌, refl, sym, ap, ◌∙◌, ℕ, ◌+◌, ◌-◌, ◌≤◌, Bool, true, false, not, ltb, Option}
use Rattle.words.proofs.Prelude.{none, some, List, [], take, drop}
use mathlib.Core.Option.{or_else}
use lib.Seq.{take-add}
use Rattle.words.proofs.Tests.{and_right}
use Rattle.entry.specs.{Limits.largest_batch, Change.Said, Change.Change}
use Rattle.snapshot.specs.Folds.{fold, merge, find, last_of}
use Rattle.snapshot.proofs.{Finds.find_onto, Finds.or-none, Finds.last-append, Algebra.fold_last}
use Rattle.model.specs.{Numbers.log_decided, Log.Run, Log.Log, Log.numbers_of, Log.given, Log.or_empty, Log.folded_to}
use Rattle.model.specs.{Log.hole, Lookup.lookup_reply}
use Rattle.model.specs.{History.Event, History.told, History.AllTruthful, History.fresh}
use Rattle.model.proofs.{Forms.ranges, Forms.formed_of, Traces.folded_is, Traces.faithful}

-- the newest word among the decided entries, else the snapshot's, is what is found in their fold
lookup_folded : (k : ℕ) (s : Log) → lookup_reply k s ≡ find k (folded_to (log_decided (numbers_of s)) s.run)
unfolding lookup_reply folded_to merge
lookup_folded k s =
    sym (find_onto k (or_empty s.run.held) (take (log_decided (numbers_of s) - s.run.compacted) s.run.retained))

-- at a hole no snapshot is held
hole_empty : (r : Run) → hole r ≡ true → or_empty r.held ≡ []
hole_empty r e = go r.held (and_right (ltb 0 r.compacted) (not (given r.held)) e)
  where
    go : (o : Option (List Change)) → not (given o) ≡ true → or_empty o ≡ []
    go none q = refl
    go (some c) q = let z : ◌≡◌ {A = ℕ} 0 1 = cc in absurd (omega arith)

-- so there the decided entries that are retained say all
lookup_at_hole : (k : ℕ) (s : Log) → hole s.run ≡ true
    → lookup_reply k s ≡ last_of k (take (log_decided (numbers_of s) - s.run.compacted) s.run.retained)
unfolding lookup_reply find
lookup_at_hole k s e = rw (hole_empty s.run e) (or-none _)

-- what the end of a run says of a key, the run says
last_of_end : (k c i : ℕ) (h : List Change) (w : Said) → c ≤ i → last_of k (take (i - c) (drop c h)) ≡ some w
    → find k (fold (take i h)) ≡ some w
unfolding or_else
last_of_end k c i h w le e =
    let at : c + (i - c) ≡ i = omega arith in
    fold_last k (take i h)
    ∙ ap (λ (j : ℕ). last_of k (take j h)) (sym at)
    ∙ ap (last_of k) (take-add c (i - c) h)
    ∙ last-append k (take c h) (take (i - c) (drop c h))
    ∙ ap (λ (o : Option Said). or_else o (last_of k (take c h))) e

module _ (n : ℕ) (sized : n ≤ largest_batch) (es : List Event) (honest : AllTruthful es (fresh n)) (k : ℕ) where
  abbrev log : Log
  log = (told es (fresh n)).log

  abbrev history : List Change
  history = (told es (fresh n)).history

  compacted_decided : log.run.compacted ≤ log_decided (numbers_of log)
  compacted_decided = (ranges (numbers_of log) (formed_of log (faithful n sized es honest).formed).numbers).low

  pub lookup_finds : hole log.run ≡ false
      → lookup_reply k log ≡ find k (fold (take (log_decided (numbers_of log)) history))
  lookup_finds whole =
      lookup_folded k log
      ∙ ap (find k)
      (folded_is log.run history (faithful n sized es honest).agrees whole (log_decided (numbers_of log))
      compacted_decided)

  -- at a hole it is what the history says from compacted on, up to log-decided: unknown there says no more
  pub lookup_retained : hole log.run ≡ true
      → lookup_reply k log
      ≡ last_of k (take (log_decided (numbers_of log) - log.run.compacted) (drop log.run.compacted history))
  lookup_retained e = rw (← (faithful n sized es honest).agrees.kept) (lookup_at_hole k log e)

  pub lookup_tells : (w : Said) → lookup_reply k log ≡ some w
      → find k (fold (take (log_decided (numbers_of log)) history)) ≡ some w
  lookup_tells w e = go (hole log.run) refl
    where
      go : (t : Bool) → hole log.run ≡ t → find k (fold (take (log_decided (numbers_of log)) history)) ≡ some w
      go false q = sym (lookup_finds q) ∙ e
      go true q =
          last_of_end k log.run.compacted (log_decided (numbers_of log)) history w compacted_decided
          (sym (lookup_retained q) ∙ e)
