-- A walk back through entries for the newest one of a key, and the whole lookup.
use Rattle.words.proofs.Prelude.{arith, ◌≡◌, refl, sym, ap, ap₂, ◌∙◌, ℕ, suc, ◌+◌, ◌-◌, ◌*◌, ◌≤◌, Bool, true, false}
use Rattle.words.proofs.Prelude.{eqb, eq-eqb, ne_eqb, if◌then◌else◌, Option, none, some, List, [], ◌∷◌, ◌++◌}
use Rattle.words.proofs.Prelude.{drop_of_length-le, take-append-drop, length, take, drop}
use mathlib.Core.Option.{or_else}
use Rattle.std.specs.Prelude.{Option as Optional, Some, None}
use Rattle.words.specs.Coded.{entries_at}
use Rattle.words.proofs.{CodedLaws.entries_length, CodedLaws.entries_take, Alls.all_take}
use Rattle.entry.specs.{Limits.width, Change.Said, Change.Change, Change.change_code, Change.entries_of, Guards.replied}
use Rattle.entry.specs.{Change.change_formed, Change.entries_formed, Inner.change_at, Reply.reply_formed}
use Rattle.entry.specs.{Reply.known_is, declared.Said.Said as CodeSaid}
use Rattle.entry.proofs.ChangeLaws.{entry_cons}
use Rattle.snapshot.specs.Folds.{find, last_of}
use Rattle.snapshot.proofs.{Finds.last-append, Forming.formed_either, Forming.formed_last}
use Rattle.snapshot.proofs.{Forming.formed_find}
use Rattle.model.specs.{Numbers.end_of, Numbers.log_decided, Log.numbers_of, Log.or_empty, Lookup.lookup_reply, Calls.query}
use Rattle.model.specs.{Calls.lookup, Calls.query_reply, Calls.query_guards}
use Rattle.model.proofs.Forms.{log_min}
use Rattle.state_cache.specs.{State.Raw, State.numbers_in, State.log_of, Inner.Ready, Run.run}
use Rattle.state_cache.proofs.Stands.{stands_of, numbers_are}
use Rattle.reading.specs.{Newest.NewestIs}
use Rattle.reading.proofs.Answers.{answer_is}

-- the last of a run is asked first
last_snoc : (k : ℕ) (es : List Change) (c : Change)
    → last_of k (es ++ (c ∷ [])) ≡ or_else (if eqb c.key k then some c.said else none) (last_of k es)
unfolding last_of or_else
last_snoc k es c = last-append k es (c ∷ [])

entries_snoc : (i : ℕ) (ws : List ℕ) → entries_of (i + 1) ws ≡ entries_of i ws ++ (change_at ws i ∷ [])
entries_snoc i ws =
    let es : List Change = entries_of (i + 1) ws in
    let d : drop (suc i) es ≡ [] =
    drop_of_length-le es {i = suc i} (omega (arith, entries_length change_code (i + 1) ws)) in
    sym (take-append-drop i es)
    ∙ ap (λ (l : List Change). l ++ drop i es) (entries_take change_code i (i + 1) ws (omega arith))
    ∙ ap (λ (l : List Change). entries_of i ws ++ l) (entry_cons i (i + 1) ws (omega arith))
    ∙ ap (λ (l : List Change). entries_of i ws ++ (change_at ws i ∷ l)) d

-- i of n entries are left to look at
pub record Left (n : ℕ) (ws : List ℕ) (k i : ℕ) : Type 0 where
  pub within : i ≤ n
  pub newest : last_of k (entries_of n ws) ≡ last_of k (entries_of i ws)

module _ (n : ℕ) (ws : List ℕ) (k i : ℕ) (l : Left n ws k i) where
  pub newest_none : i ≡ 0 → NewestIs k n ws None
  unfolding last_of entries_at
  newest_none e = record { says = sym (l.newest ∙ ap (λ (j : ℕ). last_of k (entries_of j ws)) e); inside = tt }

  pub newest_few : (r : Optional ℕ) → NewestIs k i ws r → NewestIs k n ws r
  newest_few (Some j) p = record { says = p.says ∙ sym l.newest; inside = omega (arith, p.inside) }
  newest_few None p = record { says = p.says ∙ sym l.newest; inside = tt }

  -- the one before j + 1 is looked at
  module _ (j : ℕ) (e : i ≡ j + 1) where
    one_back : last_of k (entries_of n ws)
        ≡ or_else (if eqb (change_at ws j).key k then some (change_at ws j).said else none) (last_of k (entries_of j ws))
    one_back =
        l.newest ∙ ap (λ (m : ℕ). last_of k (entries_of m ws)) e
        ∙ ap (last_of k) (entries_snoc j ws) ∙ last_snoc k (entries_of j ws) (change_at ws j)

    pub newest_found : (change_at ws j).key ≡ k → NewestIs k n ws (Some j)
    unfolding or_else
    newest_found q = record { says = sym (one_back ∙ rw (eq-eqb (change_at ws j).key k q)); inside = omega arith }

    pub newest_back : ((change_at ws j).key ≡ k → ⊥) → Left n ws k j
    unfolding or_else
    newest_back q = record { within = omega arith; newest = one_back ∙ rw (ne_eqb (change_at ws j).key k q) }

-- the entries below log-decided are retained ones
pub decided_low : (r : Raw) → Ready r → r.index.compacted.0 ≤ log_decided (numbers_in r.index)
unfolding end_of
decided_low r g = omega (arith, log_min (numbers_in r.index) g.numbers.high, g.numbers.low)

pub decided_few : (r : Raw) → Ready r → log_decided (numbers_in r.index) - r.index.compacted.0 ≤ r.index.retained
unfolding end_of
decided_few r g = omega (arith, log_min (numbers_in r.index) g.numbers.high)

-- the snapshot that is held, empty where none is
snapshot_by : (b : Bool) (n : ℕ) (ws : List ℕ) → length (or_empty (if b then some (entries_of n ws) else none)) ≡ n
    → or_empty (if b then some (entries_of n ws) else none) ≡ entries_of n ws
unfolding entries_at
snapshot_by true n ws e = refl
snapshot_by false n ws e = ap (λ (j : ℕ). entries_of j ws) e

module _ (r : Raw) (g : Ready r) (k : ℕ) where
  abbrev below : ℕ
  below = log_decided (numbers_in r.index) - r.index.compacted.0

  abbrev held : List Change
  held = entries_of r.index.keys r.snapshot

  snapshot : or_empty (log_of r).run.held ≡ held
  unfolding log_of
  snapshot = snapshot_by r.index.snapshot_held r.index.keys r.snapshot
      (stands_of r g.okay).run.snapshot_keys

  retained_is : take (log_decided (numbers_of (log_of r)) - (log_of r).run.compacted) (log_of r).run.retained
      ≡ entries_of below r.log
  unfolding log_of
  retained_is =
      ap (λ (m : ℕ). take (m - r.index.compacted.0) (entries_of r.index.retained r.log))
      (ap log_decided (numbers_are (log_of r) r (stands_of r g.okay)))
      ∙ entries_take change_code below r.index.retained r.log (decided_few r g)

  -- what is replied is in form
  pub reply_formed_lem : reply_formed (lookup_reply k (log_of r)) ≡ true
  unfolding lookup_reply
  reply_formed_lem = rw (retained_is, snapshot) (formed_either (last_of k (entries_of below r.log)) (find k held)
      (formed_last k (entries_of below r.log) retained_fine) (formed_find k held g.snapshot.laid.fine))
    where
      retained_fine : entries_formed (entries_of below r.log) ≡ true
      retained_fine = rw (← entries_take change_code below (r.index.retained + r.index.batched) r.log
          (omega (arith, decided_few r g))) (all_take change_formed below _ g.log.fine)

  look_answer : replied (or_else (last_of k (entries_of below r.log)) (find k held))
      ≡ (run (query (lookup k)) true r).answer
  unfolding query_reply query_guards lookup_reply
  look_answer =
      answer_is (lookup k) r g.okay refl refl (or_else (last_of k (entries_of below r.log)) (find k held))
      (ap₂ (λ (l m : List Change). or_else (last_of k l) (find k m)) (sym retained_is) (sym snapshot))

  -- d is log-decided, as the code has it
  module _ (d : ℕ) (q : d ≡ log_decided (numbers_in r.index)) where
    abbrev newest : Option Said
    newest = last_of k (entries_of (d - r.index.compacted.0) r.log)

    pub look_inside : (d - r.index.compacted.0) * width ≤ length r.log
    look_inside = omega (arith, q, decided_few r g, g.log.long, g.log.fits)

    look_with : (o : Option Said) → newest ≡ o
        → replied (or_else o (find k held)) ≡ (run (query (lookup k)) true r).answer
    look_with o e =
        ap (λ (p : Option Said). replied (or_else p (find k held)))
        (sym e ∙ ap (λ (j : ℕ). last_of k (entries_of (j - r.index.compacted.0) r.log)) q)
        ∙ look_answer

    -- a word of the entries is told
    pub look_told : (f : Optional CodeSaid) → known_is f ≡ newest → (f ≡ None → ⊥)
        → replied (known_is f) ≡ (run (query (lookup k)) true r).answer
    unfolding or_else
    look_told (Some s) e known = look_with (known_is (Some s)) (sym e)
    look_told None e known = absurd (known refl)

    -- where they have none the snapshot is asked
    pub look_snapshot : known_is None ≡ newest → (f : Optional CodeSaid) → known_is f ≡ find k held
        → replied (known_is f) ≡ (run (query (lookup k)) true r).answer
    unfolding or_else
    look_snapshot e f p = ap replied p ∙ look_with none (sym e)
