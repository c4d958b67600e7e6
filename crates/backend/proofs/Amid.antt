-- The log's words in the midst of a list, whatever the numbers are: another run before the same batch.
use Rattle.words.proofs.Prelude.{arith, ◌≡◌, refl, sym, ap, ◌∙◌, ℕ, ◌+◌, ◌-◌, ◌*◌, ◌/◌, ◌≤◌, min, true, List, []}
use Rattle.words.proofs.Prelude.{append_assoc, ◌++◌, length-drop, length-take, length-append, drop_of_length-le, length}
use Rattle.words.proofs.Prelude.{take, drop, take_all}
use Rattle.words.specs.{Words.laid, Words.spliced, Coded.words_of}
use Rattle.words.proofs.Tests.{reach, reached, short, and_left, and_right}
use Rattle.words.proofs.Alls.{all_join, all_left, all_right, all_take, all_drop}
use Rattle.words.proofs.CodedLaws.{entries_length, entries_add, entries_first, entries_second, words_entries}
use Rattle.words.proofs.CodedLaws.{spliced_laid, spliced_trim, spliced_sync}
use Rattle.entry.specs.Limits.{width, entry_room, log_words}
use Rattle.entry.specs.Change.{Change, change_code, change_formed, entries_formed, entries_of, entries_in, slice_formed}
use Rattle.entry.specs.Change.{stored, stored_in}
use Rattle.entry.proofs.ChangeLaws.{change_ok}
use Rattle.entry.proofs.SliceLaws.{laid_of, stored_laid, slice_whole, slice_fine}
use Rattle.snapshot.specs.Calls.{snapshot_formed}
use Rattle.model.specs.{Numbers.numbers_formed, Log.Log, Log.retaining, Log.with_run}
use Rattle.state_cache.specs.State.{Raw, raw, numbers_in, sign_held, formed, log_of}
use Rattle.state_cache.specs.Inner.{Ready, with_entries}
use Rattle.state_cache.proofs.Stands.{snapshot_tests}
use Rattle.backend.specs.Inner.{Kept}

-- the words of an entry slice are its entries'
pub slice_coded : (ws : List ℕ) → slice_formed ws ≡ true → ws ≡ words_of change_code (entries_in ws)
slice_coded ws e =
    let n : ℕ = length ws / width in
    let w : length ws ≡ n * width = omega (arith, slice_whole ws e) in
    sym (words_entries change_code change_ok n ws (omega arith) ∙ take_all (n * width) ws (omega arith))

-- no more is dropped than there is
pub drop_least : {A : Type 0} (k : ℕ) (l : List A) → drop (min k (length l)) l ≡ drop k l
drop_least k l = elim (reach k (length l)) [
  | reached h ↦ let e : min k (length l) ≡ k = omega arith in ap (λ (j : ℕ). drop j l) e
  | short h ↦ drop_of_length-le l {i = min k (length l)} (omega arith) ∙ sym (drop_of_length-le l {i = k} (omega arith))
]

-- before the first operation
pub ready_held : (r : Raw) → Ready r → Kept r
unfolding formed
ready_held r g =
    let e₁ = and_right (numbers_formed (numbers_in r.index)) _ g.okay in
    let e₂ = and_right (sign_held r.index) _ e₁ in
    let e₃ = sym (snapshot_tests r.index r.snapshot)
    ∙ and_right (stored_in log_words (r.index.retained + r.index.batched) r.log) _ e₂ in
    record { log = g.log; snapshot = g.snapshot; none_held = and_right (snapshot_formed r.index.keys r.snapshot) _ e₃; sign = and_left (sign_held r.index) _ e₁ }

module _ (r : Raw) (h : Kept r) where
  abbrev kept : List Change
  kept = entries_of r.index.retained r.log

  abbrev batch : List Change
  batch = entries_of r.index.batched (drop (r.index.retained * width) r.log)

  pub kept_count : length kept ≡ r.index.retained
  kept_count = entries_length change_code r.index.retained r.log

  pub batch_count : length batch ≡ r.index.batched
  batch_count = entries_length change_code r.index.batched (drop (r.index.retained * width) r.log)

  held_are : entries_of (r.index.retained + r.index.batched) r.log ≡ kept ++ batch
  held_are = entries_add change_code r.index.retained r.index.batched r.log

  held_fine : entries_formed (kept ++ batch) ≡ true
  held_fine = rw (← held_are) h.log.fine

  kept_fine : entries_formed kept ≡ true
  kept_fine = all_left change_formed kept batch held_fine

  batch_fine : entries_formed batch ≡ true
  batch_fine = all_right change_formed kept batch held_fine

  -- whole entries cut and put in
  spliced_are : (at cut : ℕ) (new : List ℕ) (ns : List Change) → new ≡ words_of change_code ns
      → laid (length r.log) (spliced (at * width)
      (cut * width) new (take ((r.index.retained + r.index.batched) * width) r.log))
      ≡ stored log_words (spliced at cut ns (kept ++ batch))
  spliced_are at cut new ns e =
      spliced_laid change_code change_ok (r.index.retained + r.index.batched) at cut r.log new ns
      (omega (arith, h.log.fits, h.log.long)) e
      ∙ ap (λ (n : ℕ). stored n (spliced at cut ns (entries_of (r.index.retained + r.index.batched) r.log)))
      h.log.long
      ∙ ap (λ (es : List Change). stored log_words (spliced at cut ns es)) held_are

  module _ (run : List Change) (words : List ℕ) (k : ℕ) (e : words ≡ stored log_words (run ++ batch))
      (many : k ≡ length run) (fine : entries_formed run ≡ true)
      (room : k + r.index.batched ≤ entry_room) where
    abbrev x : Raw
    x = raw (with_entries k r.index.batched r.index) words r.snapshot

    rerun_log : log_of x ≡ with_run (retaining run (log_of r).run) (log_of r)
    unfolding log_of
    rerun_log = fields _ _ first second
      where
        first : entries_of k words ≡ run
        first = rw (many, e) (entries_first change_code change_ok log_words run batch fine)

        second : entries_of r.index.batched (drop (k * width) words) ≡ batch
        second = rw (many, e) (ap (λ (j : ℕ). entries_of j (drop (length run * width) (stored log_words (run ++ batch))))
            (sym batch_count) ∙ entries_second change_code change_ok log_words run batch batch_fine)

        fields : (a b : List Change) → a ≡ run → b ≡ batch
            → ◌≡◌ {A = Log} (record {
              run = record { compacted = (log_of r).run.compacted; retained = a; held = (log_of r).run.held };
              tail = record { batched = b; size = (log_of r).tail.size; sign = (log_of r).tail.sign };
              marks = (log_of r).marks;
            }) (with_run (retaining run (log_of r).run) (log_of r))
        fields a b p q = rw (p, q)

    rerun_held : Kept x
    unfolding sign_held
    rerun_held = record {
      log = rw (counted, e) (laid_of log_words (length (run ++ batch)) (stored log_words (run ++ batch)) (stored_laid
          log_words (run ++ batch) (omega (arith, counted, room)) (all_join change_formed run batch fine batch_fine)));
      snapshot = h.snapshot;
      none_held = h.none_held;
      sign = h.sign;
    }
      where
        counted : k + r.index.batched ≡ length (run ++ batch)
        counted = omega (arith, length-append run batch, many, batch_count)

  -- the run cut after its first entries, and others put there
  module _ (at : ℕ) (entries words : List ℕ) (inside : at ≤ r.index.retained) (whole : slice_formed entries ≡ true)
      (e : words ≡ laid (length r.log) (spliced (at * width) ((r.index.retained - at) * width) entries
      (take ((r.index.retained + r.index.batched) * width) r.log))) where
    abbrev es : List Change
    es = entries_in entries

    put_words : words ≡ stored log_words (take at kept ++ es ++ batch)
    put_words =
        e ∙ spliced_are at (r.index.retained - at) entries es (slice_coded entries whole)
        ∙ ap (stored log_words)
        (ap (λ (j : ℕ). spliced at (j - at) es (kept ++ batch)) (sym kept_count)
        ∙ spliced_sync at kept batch es (omega (arith, kept_count)) ∙ sym (append_assoc (take at kept) es batch))

    put_fine : entries_formed (take at kept ++ es) ≡ true
    put_fine = all_join change_formed (take at kept) es (all_take change_formed at kept kept_fine)
        (slice_fine entries whole)

    module _ (k : ℕ) (many : k ≡ at + length es) (room : k + r.index.batched ≤ entry_room) where
      counted : k ≡ length (take at kept ++ es)
      counted = omega (arith, length-append (take at kept) es, length-take at kept, kept_count)

      pub put_log : log_of (raw (with_entries k r.index.batched r.index) words r.snapshot)
          ≡ with_run (retaining (take at (log_of r).run.retained ++ es) (log_of r).run) (log_of r)
      unfolding log_of
      put_log = rerun_log (take at kept ++ es) words k put_words counted put_fine room

      pub put_held : Kept (raw (with_entries k r.index.batched r.index) words r.snapshot)
      put_held = rerun_held (take at kept ++ es) words k put_words counted put_fine room

  -- entries dropped from its front
  module _ (below gone : ℕ) (words : List ℕ) (least : gone ≡ min below r.index.retained)
      (e : words ≡ laid (length r.log)
      (spliced 0 (gone * width) [] (take ((r.index.retained + r.index.batched) * width) r.log))) where
    trim_words : words ≡ stored log_words (drop below kept ++ batch)
    trim_words =
        let g : gone ≡ min below (length kept) = omega (arith, kept_count) in
        e ∙ spliced_are 0 gone [] [] (unfold words_of in refl)
        ∙ ap (stored log_words) (spliced_trim gone kept batch (omega arith) ∙ ap (λ (j : ℕ). drop j kept ++ batch) g
        ∙ ap (λ (l : List Change). l ++ batch) (drop_least below kept))

    trim_count : r.index.retained - gone ≡ length (drop below kept)
    trim_count = omega (arith, length-drop below kept, kept_count)

    trim_room : r.index.retained - gone + r.index.batched ≤ entry_room
    trim_room = omega (arith, h.log.fits)

    pub trim_log : log_of (raw (with_entries (r.index.retained - gone) r.index.batched r.index) words
        r.snapshot) ≡ with_run (retaining (drop below (log_of r).run.retained) (log_of r).run) (log_of r)
    unfolding log_of
    trim_log = rerun_log (drop below kept) words (r.index.retained - gone) trim_words trim_count
        (all_drop change_formed below kept kept_fine) trim_room

    pub trim_held : Kept (raw (with_entries (r.index.retained - gone) r.index.batched r.index)
        words r.snapshot)
    trim_held = rerun_held (drop below kept) words (r.index.retained - gone) trim_words trim_count
        (all_drop change_formed below kept kept_fine) trim_room
