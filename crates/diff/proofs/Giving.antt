-- What a diff gives, of a lent state: a fold onto the held snapshot, or of a part of the log.
use Rattle.words.proofs.Prelude.{arith, ◌≡◌, refl, sym, ap, ap₂, ◌∙◌, ℕ, ◌+◌, ◌-◌, ◌*◌, ◌≤◌, ◌<◌, min, Bool, true, false}
use Rattle.words.proofs.Prelude.{true≢false, and-true, ◌&&◌, ◌||◌, not, ltb, leb, lt-ltb, le-ltb, ltb-false, le-leb}
use Rattle.words.proofs.Prelude.{lt-leb, if◌then◌else◌, Option, none, some, List, [], length-drop, length, take, drop}
use Rattle.words.proofs.Prelude.{replicate, take_all}
use Rattle.std.proofs.Math.Bool.{and-false, or-false}
use Rattle.words.specs.Coded.{entries_at}
use Rattle.words.proofs.{Tests.Reach, Tests.reached, Tests.short, Tests.reach, Tests.or_left, Tests.or_right}
use Rattle.words.proofs.{Alls.all_take, Alls.all_drop, CodedLaws.entries_take, CodedLaws.entries_drop}
use Rattle.entry.specs.Limits.{width, snapshot_words}
use Rattle.entry.specs.Change.{Change, change_code, change_formed, entries_formed, entries_of}
use Rattle.snapshot.specs.{Folds.fold, Folds.merge, Inner.Shows, Inner.Aside, Inner.folded_out}
use Rattle.snapshot.proofs.{Calling.snapshot_holds, Calling.empty_formed, Algebra.merge_empty, Forming.formed_fold}
use Rattle.model.specs.{Numbers.log_decided, Log.Run, Log.Log, Log.given, Log.or_empty, Log.folded_to, Log.hole}
use Rattle.model.specs.{Read.between, Diff.Given, Diff.plain, Diff.complete, Diff.delta, Diff.diff_of, Diff.diff_folds}
use Rattle.model.proofs.Forms.{formed_of, snapshot_folded}
use Rattle.state_cache.specs.{State.Raw, State.numbers_in, State.formed, State.log_of, Inner.Ready, Inner.hole_in}
use Rattle.state_cache.proofs.Stands.{Stands, stands_of, log_formed, ready_of, hole_is}
use Rattle.compaction.proofs.Folding.{numbers, decided_low, decided_high}

-- the model's diff, of a run up to an index
abbrev diff_to : ℕ → ℕ → Run → Given
diff_to last i r =
    if leb i r.compacted
    then (if ltb r.compacted last then complete (folded_to last r) else elim r.held [
      | none ↦ plain
      | some h ↦ complete h
    ])
    else delta (fold (between i last r))

-- a snapshot with nothing folded onto it
fold_none : (last : ℕ) (r : Run) → last ≤ r.compacted → folded_to last r ≡ or_empty r.held
unfolding folded_to
fold_none last r h =
    let z : last - r.compacted ≡ 0 = omega arith in
    ap (λ (k : ℕ). merge (or_empty r.held) (take k r.retained)) z ∙ merge_empty (or_empty r.held)

module _ (last i : ℕ) (r : Run) where
  to_delta_lem : r.compacted < i → diff_to last i r ≡ delta (fold (between i last r))
  to_delta_lem h = rw (lt-leb i r.compacted h)

  module _ (h : i ≤ r.compacted) where
    to_plain : last ≤ r.compacted → given r.held ≡ false → diff_to last i r ≡ plain
    to_plain k g = rw (le-leb i r.compacted h, le-ltb r.compacted last k) (go r.held g)
      where
        go : (o : Option (List Change)) → given o ≡ false → elim o [ none ↦ plain | some t ↦ complete t ] ≡ plain
        go none e = refl
        go (some t) e = let z : ◌≡◌ {A = ℕ} 0 1 = cc in absurd (omega arith)

    to_complete_lem : (given r.held || ltb r.compacted last) ≡ true → diff_to last i r ≡ complete (folded_to last r)
    to_complete_lem g = rw (le-leb i r.compacted h) (go (reach last r.compacted))
      where
        held : (o : Option (List Change)) → given o ≡ true
            → elim o [ none ↦ plain | some t ↦ complete t ] ≡ complete (or_empty o)
        held none e = let z : ◌≡◌ {A = ℕ} 0 1 = cc in absurd (omega arith)
        held (some t) e = refl

        go : Reach last r.compacted
            → (if ltb r.compacted last then complete (folded_to last r) else elim r.held [
              | none ↦ plain
              | some t ↦ complete t
            ]) ≡ complete (folded_to last r)
        go (reached x) =
            let e = le-ltb r.compacted last x in
            rw e (held r.held (sym (or-false (given r.held)) ∙ rw e at g) ∙ ap complete (sym (fold_none last r x)))
        go (short x) = rw (lt-ltb r.compacted last x)

-- the entries of the part, where it starts no later than it ends
between_least : (i last : ℕ) (r : Run) → between (min i last) last r ≡ between i last r
between_least i last r = go (reach i last)
  where
    go : Reach i last → between (min i last) last r ≡ between i last r
    go (reached x) = let e : min i last ≡ i = omega arith in ap (λ (k : ℕ). between k last r) e
    go (short x) =
        let e : last - min i last ≡ 0 = omega arith in
        let f : last - i ≡ 0 = omega arith in
        ap (λ (k : ℕ). take k (drop (min i last - r.compacted) r.retained)) e
        ∙ ap (λ (k : ℕ). take k (drop (i - r.compacted) r.retained)) (sym f)

-- a part of the log, to its end, folded onto the empty snapshot
module _ (first n : ℕ) (log out : List ℕ) where
  rest : take (length log - first * width) (drop (first * width) log) ≡ drop (first * width) log
  rest = take_all (length log - first * width) (drop (first * width) log) (simp length-drop (omega arith))

  pub rest_needs : Shows n (drop (first * width) log) → length out ≡ snapshot_words
      → Aside 0 (replicate snapshot_words 0) n (take (length log - first * width) (drop (first * width) log)) out
  rest_needs h roomy = rw rest (record
      { base_holds = snapshot_holds 0 (replicate snapshot_words 0) empty_formed; entries_show = h; room = roomy })

  pub rest_folds : folded_out 0 (replicate snapshot_words 0) n
      (take (length log - first * width) (drop (first * width) log)) out
      ≡ folded_out 0 [] n (drop (first * width) log) out
  unfolding entries_at
  rest_folds = ap (λ (ws : List ℕ). folded_out 0 [] n ws out) rest

-- the diff of a lent state, with log-decided as the code finds it
module _ (r : Raw) (ok : formed r ≡ true) (i last : ℕ) (l : last ≡ log_decided (numbers_in r.index)) where
  abbrev s : Log
  s = log_of r

  st : Stands s r
  st = stands_of r ok

  -- log-decided is in the run
  low : r.index.compacted.0 ≤ last
  low = decided_low (numbers_in r.index) (ready_of r ok).numbers last l

  high : last ≤ r.index.compacted.0 + r.index.retained
  high = decided_high (numbers_in r.index) (ready_of r ok).numbers last l

  diff_is : diff_of i s ≡ diff_to last i s.run
  unfolding diff_of
  diff_is = ap (λ (k : ℕ). diff_to k i s.run) (sym (l ∙ ap log_decided (sym (numbers r ok))))

  pub diff_plain : i ≤ r.index.compacted.0 → (r.index.snapshot_held || ltb r.index.compacted.0 last) ≡ false
      → diff_of i s ≡ plain
  diff_plain h e =
      diff_is
      ∙ to_plain last i s.run (omega (arith, st.run.start, h))
      (omega
      (arith, st.run.start, ltb-false r.index.compacted.0 last (or_right r.index.snapshot_held _ e)))
      (st.run.snapshot ∙ or_left _ _ e)

  pub diff_complete : i ≤ r.index.compacted.0
      → (r.index.snapshot_held || ltb r.index.compacted.0 last) ≡ true
      → diff_of i s ≡ complete (folded_to last s.run)
  diff_complete h e = diff_is
      ∙ to_complete_lem last i s.run (omega (arith, st.run.start, h)) (rw (st.run.snapshot, st.run.start) e)

  -- refusal 16, by the record: a complete diff that folds, of a log with a hole
  folds_is : (diff_folds i s && hole s.run)
      ≡ ((leb i r.index.compacted.0 && ltb r.index.compacted.0 last) && hole_in r.index)
  unfolding diff_folds
  folds_is =
      ap₂ (λ (t u : Bool). t && u)
      (ap₂ (λ (a b : ℕ). leb i a && ltb a b) st.run.start (sym (l ∙ ap log_decided (sym (numbers r ok)))))
      (hole_is s r st)

  pub diff_onto : i ≤ r.index.compacted.0 → (r.index.snapshot_held || ltb r.index.compacted.0 last) ≡ true
      → hole_in r.index ≡ true → (diff_folds i s && hole s.run) ≡ true
  diff_onto h g e =
      folds_is ∙ rw (le-leb i r.index.compacted.0 h, e)
      (and-true _ ∙ bare r.index.snapshot_held (ltb 0 r.index.compacted.0) _ e g)
    where
      bare : (held up folds : Bool) → (up && not held) ≡ true → (held || folds) ≡ true → folds ≡ true
      bare true up folds e g = absurd (true≢false (sym (sym (and-false up) ∙ e)))
      bare false up folds e g = g

  pub diff_rests : (r.index.snapshot_held || ltb r.index.compacted.0 last) ≡ false
      → (diff_folds i s && hole s.run) ≡ false
  diff_rests g = folds_is ∙ rw (or_right r.index.snapshot_held _ g, and-false (leb i r.index.compacted.0))

  pub diff_whole : hole_in r.index ≡ false → (diff_folds i s && hole s.run) ≡ false
  diff_whole e = folds_is ∙ rw (e, and-false (leb i r.index.compacted.0 && ltb r.index.compacted.0 last))

  pub diff_past : r.index.compacted.0 < i → (diff_folds i s && hole s.run) ≡ false
  diff_past h = folds_is ∙ rw (lt-leb i r.index.compacted.0 h)

  pub complete_formed : entries_formed (folded_to last s.run) ≡ true
  complete_formed = (snapshot_folded last s (formed_of s (log_formed r ok))).fine

  -- a delta is folded from its start, or from log-decided where it would start past that
  module _ (h : r.index.compacted.0 < i) (start : ℕ) (e : start ≡ min i last) where
    abbrev part : List Change
    part = entries_of (last - start) (drop ((start - r.index.compacted.0) * width) r.log)

    pub start_low : r.index.compacted.0 ≤ start
    start_low = omega (arith, low)

    part_is : part ≡ between start last s.run
    unfolding log_of
    part_is =
        let first : ℕ = start - r.index.compacted.0 in
        sym (ap (take (last - start)) (entries_drop change_code first r.index.retained r.log
        (omega (arith, start_low, high)))
        ∙ entries_take change_code (last - start) (r.index.retained - first) (drop (first * width) r.log)
        (omega (arith, start_low, low, high)))

    pub diff_delta : diff_of i s ≡ delta (fold part)
    diff_delta =
        diff_is ∙ to_delta_lem last i s.run (omega (arith, st.run.start, h))
        ∙ ap (λ (es : List Change). delta (fold es))
        (sym (part_is ∙ ap (λ (k : ℕ). between k last s.run) e ∙ between_least i last s.run))

    part_formed_lem : entries_formed part ≡ true
    part_formed_lem =
        rw part_is
        (all_take change_formed (last - start) _ (all_drop change_formed (start - s.run.compacted) s.run.retained
        (formed_of s (log_formed r ok)).entries))

    pub delta_formed : entries_formed (fold part) ≡ true
    delta_formed = formed_fold part part_formed_lem

    pub part_inside : (start - r.index.compacted.0) * width ≤ length r.log
    part_inside = let g : Ready r = ready_of r ok in
        omega (arith, high, g.log.fits, g.log.long)

    pub part_shows : Shows (last - start) (drop ((start - r.index.compacted.0) * width) r.log)
    part_shows =
        let g : Ready r = ready_of r ok in
        record {
          inside = simp length-drop (omega (arith, start_low, high, g.log.fits, g.log.long));
          sound = part_formed_lem;
        }
