-- The log's words after a splice of whole entries, and the state of a log reloaded.
use Rattle.words.proofs.Prelude.{arith, ◌≡◌, refl, sym, ap, ap₂, ◌∙◌, ℕ, ◌+◌, ◌-◌, ◌*◌, ◌≤◌, Bool, true, false, ◌&&◌}
use Rattle.words.proofs.Prelude.{eqb, leb, eq-eqb, eqb-true, le-leb, List, [], append-nil, ◌++◌, length-append, length}
use Rattle.words.proofs.Prelude.{take, replicate}
use lib.Seq.{paste}
use Rattle.words.specs.{Words.laid, Words.spliced, Coded.words_of}
use Rattle.words.proofs.{Tests.and_left, Tests.and_right, Alls.all_join, Laws.cleared, CodedLaws.spliced_laid}
use Rattle.words.proofs.{CodedLaws.spliced_reload}
use Rattle.entry.specs.Limits.{width, largest_batch, log_words, snapshot_words}
use Rattle.entry.specs.Change.{Change, change_code, change_formed, entries_formed, entries_of, stored}
use Rattle.entry.specs.Guards.{first, refused, replied}
use Rattle.entry.proofs.{ChangeLaws.change_ok, SliceLaws.stored_length, SliceLaws.stored_entries}
use Rattle.model.specs.{Numbers.accepted_of, Log.Log, Log.well_formed, Log.fresh_log, Append.reloaded, Calls.reload}
use Rattle.model.specs.{Calls.malformed, Calls.further, Calls.effect, Calls.reply_of}
use Rattle.model.proofs.Forms.{formed_of}
use Rattle.state_cache.specs.{State.Raw, State.raw, State.numbers_in, State.formed, State.log_of, State.index_of}
use Rattle.state_cache.specs.{State.raw_of, Run.outcome, Run.run, Run.fresh_call, Inner.with_entries}
use Rattle.state_cache.proofs.Stands.{Stands, stands_of, numbers_are, log_formed}
use Rattle.state_cache.proofs.Runs.{call_stands}

module _ (s : Log) (r : Raw) (st : Stands s r) (w : well_formed s ≡ true) where
  abbrev held : List Change
  held = s.run.retained ++ s.tail.batched

  held_formed : entries_formed held ≡ true
  held_formed = let f = formed_of s w in
      all_join change_formed s.run.retained s.tail.batched f.entries f.batch

  pub held_length : length held ≡ r.index.retained + r.index.batched
  held_length = omega (arith, length-append s.run.retained s.tail.batched, st.run.count, st.tail.count)

  held_fits : length held * width ≤ log_words
  held_fits = let f = formed_of s w in
      omega (arith, length-append s.run.retained s.tail.batched, f.numbers.room)

  pub log_long : length r.log ≡ log_words
  log_long = ap length (sym st.log) ∙ stored_length log_words held held_fits

  -- the entries at the front of the log
  pub log_entries : entries_of (r.index.retained + r.index.batched) r.log ≡ held
  log_entries = rw (← held_length, ← st.log) (stored_entries log_words held held_formed)

  -- whole entries cut and put in
  pub log_spliced : (at cut : ℕ) (new : List ℕ) (ns : List Change) → new ≡ words_of change_code ns
      → laid (length r.log) (spliced (at * width)
      (cut * width) new (take ((r.index.retained + r.index.batched) * width) r.log))
      ≡ stored log_words (spliced at cut ns held)
  log_spliced at cut new ns e =
      spliced_laid change_code change_ok (r.index.retained + r.index.batched) at cut r.log new ns
      (omega (arith, log_long, held_fits, held_length)) e
      ∙ ap (λ (n : ℕ). stored n
      (spliced at cut ns (entries_of (r.index.retained + r.index.batched) r.log))) log_long
      ∙ ap (λ (es : List Change). stored log_words (spliced at cut ns es)) log_entries

  -- the batch cut off
  pub reload_stands : (words : List ℕ)
      → words ≡ laid (length r.log)
      (spliced (r.index.retained * width)
      (r.index.batched * width) [] (take ((r.index.retained + r.index.batched) * width) r.log))
      → Stands (reloaded s) (raw (with_entries r.index.retained 0 r.index) words r.snapshot)
  unfolding reloaded
  reload_stands words e = record {
    run = st.run;
    tail = record { count = refl; sized = st.tail.sized; stopped = st.tail.stopped; sign = st.tail.sign };
    marks = st.marks;
    log =
        ap (stored log_words) (append-nil s.run.retained
        ∙ sym (spliced_reload s.run.retained s.tail.batched))
        ∙ rw (st.run.count, st.tail.count)
        (sym (e ∙ log_spliced r.index.retained r.index.batched [] [] (unfold words_of in refl)));
    snapshot = st.snapshot;
  }

pub reload_runs : (r : Raw) → formed r ≡ true → (words : List ℕ)
    → words ≡ laid (length r.log)
    (spliced (r.index.retained * width)
    (r.index.batched * width) [] (take ((r.index.retained + r.index.batched) * width) r.log))
    → (y : ℕ) → y ≡ accepted_of (numbers_in (with_entries r.index.retained 0 r.index))
    → outcome (replied y) (raw (with_entries r.index.retained 0 r.index) words r.snapshot) ≡ run reload true r
unfolding malformed further effect reply_of first
reload_runs r ok words e y q =
    let s = reload_stands (log_of r) r (stands_of r ok) (log_formed r ok) words e in
    call_stands reload r ok refl refl y _ (q ∙ sym (ap accepted_of (numbers_are (reloaded (log_of r)) _ s))) s

-- a fresh log's words, and what a call for one comes to
zeros_fresh : (n : ℕ) → raw_of (fresh_log n)
    ≡ raw (index_of (fresh_log n)) (replicate log_words 0) (replicate snapshot_words 0)
unfolding raw_of fresh_log laid words_of
zeros_fresh n = refl

module _ (n : ℕ) (log snapshot : List ℕ) where
  abbrev pub startable : Bool
  startable = leb n largest_batch && (eqb (length log) log_words && eqb (length snapshot) snapshot_words)

  pub fresh_refused : startable ≡ false
      → outcome (refused 11 0) (raw (index_of (fresh_log 0)) log snapshot) ≡ fresh_call n log snapshot
  unfolding fresh_call
  fresh_refused e = rw e

  pub fresh_stands : startable ≡ true → (log' snapshot' : List ℕ)
      → log' ≡ paste log 0 (replicate (length log - 0) 0) (length log - 0)
      → snapshot' ≡ paste snapshot 0 (replicate (length snapshot - 0) 0) (length snapshot - 0)
      → outcome (replied tt) (raw (index_of (fresh_log n)) log' snapshot') ≡ fresh_call n log snapshot
  unfolding fresh_call
  fresh_stands e log' snapshot' p q =
      let e₂ = and_right (leb n largest_batch) _ e in
      let l : log' ≡ replicate log_words 0 = p ∙ cleared (length log) log refl
      ∙ ap (λ (k : ℕ). replicate k 0) (eqb-true (length log) log_words (and_left _ _ e₂)) in
      let m : snapshot' ≡ replicate snapshot_words 0 = q ∙ cleared (length snapshot) snapshot refl
      ∙ ap (λ (k : ℕ). replicate k 0)
      (eqb-true (length snapshot) snapshot_words (and_right (eqb (length log) log_words) _ e₂)) in
      rw e (ap₂ (λ (a b : List ℕ). outcome (replied tt) (raw (index_of (fresh_log n)) a b)) l m
      ∙ ap (outcome (replied tt)) (sym (zeros_fresh n)))

pub fresh_starts : (n : ℕ) (log snapshot : List ℕ) → n ≤ largest_batch → length log ≡ log_words
    → length snapshot ≡ snapshot_words → (fresh_call n log snapshot).after ≡ raw_of (fresh_log n)
unfolding fresh_call
fresh_starts n log snapshot h l k =
    rw (le-leb n largest_batch h, eq-eqb (length log) log_words l, eq-eqb (length snapshot) snapshot_words k)
