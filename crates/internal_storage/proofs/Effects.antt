-- What each call of the model does to a lent state that stands for its log: the record and the words after it.
use Rattle.words.proofs.Prelude.{arith, ◌≡◌, refl, sym, ap, ap₂, ◌∙◌, ℕ, ◌+◌, ◌*◌, ◌≤◌, Bool, true, false}
use Rattle.words.proofs.Prelude.{eqb, leb, ltb-false, if◌then◌else◌, Option, none, some, List, [], append-nil}
use Rattle.words.proofs.Prelude.{append_assoc, ◌++◌, length-append, length, take, take_all}
use Rattle.std.specs.Prelude.{Option as Optional, Some, None, Result, Ok, Err, is_some, unwrap_or}
use Rattle.words.specs.{Words.laid, Words.spliced, Coded.words_of}
use Rattle.words.proofs.CodedLaws.{spliced_append, spliced_before, words_entries, entries_length}
use Rattle.entry.specs.{Limits.width, Limits.entry_room, Limits.log_words, Change.Change, Change.change_code}
use Rattle.entry.specs.{Change.entries_formed, Change.entries_of, Change.stored, Sign.sign_formed, Sign.no_sign}
use Rattle.entry.specs.{Guards.Guard, Guards.Verdict, Guards.passes, Guards.refuses, Guards.first, Guards.Answer}
use Rattle.entry.specs.{Guards.refused, Guards.replied, Guards.settle, declared.Ballot.Ballot}
use Rattle.entry.specs.{declared.LogIndex.LogIndex, declared.Refusal.Refusal, declared.StopSign.StopSign}
use Rattle.entry.proofs.{ChangeLaws.change_ok, GuardLaws.passed}
use Rattle.model.specs.Numbers.{Numbers, accepted_of}
use Rattle.model.specs.Log.{Log, given, if_given, numbers_of, waiting, with_tail}
use Rattle.model.specs.Append.{Flushed, append_guards, append_stop_guards, set_stop_guards, joined, batch_with, fills}
use Rattle.model.specs.Append.{appended, appended_now, flushed, stop_appended, stop_set, append_reply, flush_reply}
use Rattle.model.specs.Calls.{Call, Reply, append, append_now, flush, flush_entries, append_stop, set_stop, set_promise}
use Rattle.model.specs.Calls.{decide, decide_guards, malformed, further, effect, reply_of}
use Rattle.state_cache.specs.{State.Raw, State.raw, State.numbers_in, State.formed, State.log_of, State.sign_or}
use Rattle.state_cache.specs.{Inner.with_entries, Inner.with_stop, Inner.with_decided, Inner.with_promise}
use Rattle.state_cache.specs.{Run.Outcome, Run.outcome, Run.run, Run.changed_at}
use Rattle.state_cache.specs.declared.IndexRecord.{IndexRecord}
use Rattle.state_cache.proofs.{Stands.Stands, Stands.stands_of, Stands.numbers_are}
use Rattle.state_cache.proofs.{Stands.log_formed, Runs.call_refused, Runs.call_stands, Changes.held_length}
use Rattle.state_cache.proofs.{Changes.log_spliced}
use Rattle.internal_storage.specs.Replies.{flushed_is, sign_is}
use Rattle.internal_storage.specs.Inner.{Indexed, indexed, by_numbers, next_at, flushed_at, held_at, batched_with, all_flushed}
use Rattle.internal_storage.specs.Inner.{flush_says}
use Rattle.internal_storage.specs.declared.Flushed.{Flushed as CodeFlushed}

module _ (r : Raw) (ok : formed r ≡ true) where
  abbrev s : Log
  s = log_of r

  st : Stands s r
  st = stands_of r ok

  pub numbers : numbers_of s ≡ numbers_in r.index
  numbers = numbers_are s r st

  -- the outcome of a call that moves no word, by the record after it and its reply
  abbrev came : {B : Type 0} → Answer (IndexRecord × B) → Outcome B
  came (replied p) = outcome (replied p.1) (raw p.0 r.log r.snapshot)
  came (refused n k) = outcome (refused n k) r

  -- and by its answer and the record where it stands
  abbrev stood : {B : Type 0} → Indexed B → Outcome B
  stood z = outcome z.answer (raw z.index r.log r.snapshot)

  same_way : {B : Type 0} (v : Verdict) (y : B) (next : IndexRecord)
      → stood (by_numbers v y next r.index) ≡ came (settle v (next, y))
  same_way passes y next = refl
  same_way (refuses n k) y next = refl

  -- one whose refusals are a function of the numbers
  module _ (c : Call) (gs : Numbers → List Guard) (same : further c s ≡ gs (numbers_of s))
      (m : malformed c ≡ false) where
    here : first (further c s) ≡ first (gs (numbers_in r.index))
    here = ap first same ∙ ap (λ (n : Numbers). first (gs n)) numbers

    pub numbers_run : (y : Reply c) (next : IndexRecord)
        → (passes ≡ first (gs (numbers_in r.index)) → (y ≡ reply_of c s)
        × Stands (effect c s) (raw next r.log r.snapshot))
        → (a : Answer (IndexRecord × Reply c)) → a ≡ settle (first (gs (numbers_in r.index))) (next, y)
        → came a ≡ run c true r
    numbers_run y next stands a e = ap came e ∙ go (first (gs (numbers_in r.index))) refl
      where
        go : (v : Verdict) → first (gs (numbers_in r.index)) ≡ v → came (settle v (next, y)) ≡ run c true r
        go passes q = let t = stands (sym q) in call_stands c r ok m (sym (here ∙ q)) y _ t.0 t.1
        go (refuses n k) q = call_refused c r ok m n k (sym (here ∙ q))

    pub numbers_run_at : {A : Type 0} (f : A → Reply c) (y : Reply c) (next : IndexRecord)
        → (passes ≡ first (gs (numbers_in r.index)) → (y ≡ reply_of c s)
        × Stands (effect c s) (raw next r.log r.snapshot))
        → (a : Result (IndexRecord × A) Refusal)
        → next_at f a ≡ settle (first (gs (numbers_in r.index))) (next, y)
        → changed_at f r.index a r.log r.snapshot ≡ run c true r
    numbers_run_at f y next stands (Ok p) e = numbers_run y next stands _ e
    numbers_run_at f y next stands (Err x) e = numbers_run y next stands _ e

    pub numbers_stand : (y : Reply c) (next : IndexRecord)
        → (passes ≡ first (gs (numbers_in r.index)) → (y ≡ reply_of c s)
        × Stands (effect c s) (raw next r.log r.snapshot))
        → (a : Answer (Reply c)) (x : IndexRecord)
        → indexed a x ≡ by_numbers (first (gs (numbers_in r.index))) y next r.index
        → outcome a (raw x r.log r.snapshot) ≡ run c true r
    numbers_stand y next stands a x e =
        ap stood e ∙ same_way (first (gs (numbers_in r.index))) y next ∙ numbers_run y next stands _ refl

  -- a call with no refusal of its own
  pub quiet_stands : (c : Call) → further c s ≡ [] → malformed c ≡ false → (y : Reply c) (x : Raw) → y ≡ reply_of c s
      → Stands (effect c s) x → outcome (replied y) x ≡ run c true r
  unfolding first
  quiet_stands c e m y x p q = call_stands c r ok m (ap first (sym e)) y x p q

  -- ---- marks

  pub decided_stands : (i : ℕ)
      → Stands (effect (decide i) s) (raw (with_decided (record { 0 = i }) r.index) r.log r.snapshot)
  unfolding effect
  decided_stands i = record {
    run = st.run;
    tail = st.tail;
    marks = record { index = refl; promised = st.marks.promised; rounded = st.marks.rounded };
    log = st.log;
    snapshot = st.snapshot;
  }

  pub decide_run : (i : LogIndex) (a : Answer (Unit {0})) (x : IndexRecord)
      → indexed a x ≡ by_numbers (first (decide_guards i.0 (numbers_in r.index))) tt (with_decided i r.index) r.index
      → outcome a (raw x r.log r.snapshot) ≡ run (decide i.0) true r
  unfolding further malformed reply_of
  decide_run i a x e =
      numbers_stand (decide i.0) (decide_guards i.0) refl refl tt _ (λ q. (refl, decided_stands i.0)) a x e

  pub promised_stands : (b : Ballot)
      → Stands (effect (set_promise b) s) (raw (with_promise b r.index) r.log r.snapshot)
  unfolding effect
  promised_stands b = record {
    run = st.run;
    tail = st.tail;
    marks = record { index = st.marks.index; promised = refl; rounded = st.marks.rounded };
    log = st.log;
    snapshot = st.snapshot;
  }

  -- ---- the batch joins the run: no word moves

  pub flushed_stands : Stands (flushed s)
      (raw (with_entries (r.index.retained + r.index.batched) 0 r.index) r.log r.snapshot)
  unfolding flushed
  flushed_stands = record {
    run = record {
      start = st.run.start;
      count = omega (arith, length-append s.run.retained s.tail.batched, st.run.count, st.tail.count);
      snapshot = st.run.snapshot;
      snapshot_keys = st.run.snapshot_keys;
    };
    tail = record { count = refl; sized = st.tail.sized; stopped = st.tail.stopped; sign = st.tail.sign };
    marks = st.marks;
    log = ap (stored log_words) (append-nil (s.run.retained ++ s.tail.batched)) ∙ st.log;
    snapshot = st.snapshot;
  }

  pub stop_stands : (g : StopSign)
      → Stands (stop_appended g s) (raw
      (with_stop true g (with_entries (r.index.retained + r.index.batched) 0 r.index)) r.log r.snapshot)
  unfolding stop_appended
  stop_stands g =
      let f = flushed_stands in
      record {
        run = f.run;
        tail = record { count = f.tail.count; sized = f.tail.sized; stopped = refl; sign = refl };
        marks = f.marks;
        log = f.log;
        snapshot = f.snapshot;
      }

  pub stop_set_stands : (g : Option StopSign)
      → Stands (stop_set g s) (raw (with_stop (given g) (sign_or g) r.index) r.log r.snapshot)
  unfolding stop_set
  stop_set_stands g = record {
    run = st.run;
    tail = record { count = st.tail.count; sized = st.tail.sized; stopped = refl; sign = refl };
    marks = st.marks;
    log = st.log;
    snapshot = st.snapshot;
  }

  set_run : (g : Option StopSign) → if_given sign_formed g ≡ true → (a : Answer ℕ) (x : IndexRecord)
      → indexed a x ≡ by_numbers (first (set_stop_guards (given g) (numbers_in r.index)))
      (accepted_of (numbers_in (with_stop (given g) (sign_or g) r.index))) (with_stop (given g) (sign_or g) r.index)
      r.index → outcome a (raw x r.log r.snapshot) ≡ run (set_stop g) true r
  unfolding further malformed effect reply_of
  set_run g fine a x e =
      numbers_stand (set_stop g) (set_stop_guards (given g)) refl (rw fine) _
      (with_stop (given g) (sign_or g) r.index)
      (λ q. (
        ap accepted_of (sym (numbers_are (stop_set g s) (raw (with_stop (given g) (sign_or g) r.index) r.log r.snapshot)
            (stop_set_stands g))),
        stop_set_stands g,
      )) a x e

  pub flush_says_lem : flush_says r.index ≡ reply_of flush_entries s
  unfolding reply_of flush_reply flush_says
  flush_says_lem =
      ap₂ (λ (k a : ℕ). if eqb k 0 then none else some (record { accepted = a; count = k })) (sym st.tail.count)
      (ap accepted_of
      (sym (numbers_are (flushed s) (raw (all_flushed r.index) r.log r.snapshot) flushed_stands)))

  pub flush_entries_run : (a : Optional CodeFlushed) (x : IndexRecord) → flushed_is a ≡ flush_says r.index
      → x ≡ all_flushed r.index
      → outcome (replied (flushed_is a)) (raw x r.log r.snapshot) ≡ run flush_entries true r
  unfolding further malformed effect
  flush_entries_run a x e p =
      ap₂ (λ (b : Option Flushed) (z : IndexRecord). outcome (replied b) (raw z r.log r.snapshot)) e p
      ∙ quiet_stands flush_entries refl refl (flush_says r.index)
      (raw (all_flushed r.index) r.log r.snapshot) flush_says_lem flushed_stands

  pub flush_run : (y : ℕ) (x : IndexRecord) → x ≡ all_flushed r.index → y ≡ accepted_of (numbers_in x)
      → outcome (replied y) (raw x r.log r.snapshot) ≡ run flush true r
  unfolding further malformed effect reply_of
  flush_run y x e p =
      ap (λ (z : IndexRecord). outcome (replied y) (raw z r.log r.snapshot)) e
      ∙ quiet_stands flush refl refl y (raw (all_flushed r.index) r.log r.snapshot)
      (p ∙ ap (λ (z : IndexRecord). accepted_of (numbers_in z)) e ∙ ap accepted_of
      (sym (numbers_are (flushed s) (raw (all_flushed r.index) r.log r.snapshot) flushed_stands)))
      flushed_stands

  pub append_stop_run : (g : StopSign) → sign_formed g ≡ true → (a : Answer (Option Flushed)) (x : IndexRecord)
      → indexed a x ≡ by_numbers (first (append_stop_guards (numbers_in r.index))) (flush_says r.index)
      (with_stop true g (all_flushed r.index)) r.index
      → outcome a (raw x r.log r.snapshot) ≡ run (append_stop g) true r
  unfolding further malformed effect reply_of
  append_stop_run g fine a x e =
      numbers_stand (append_stop g) append_stop_guards refl (rw fine) (flush_says r.index)
      (with_stop true g (all_flushed r.index)) (λ q. (flush_says_lem, stop_stands g)) a x e

  pub set_stop_run : (ss : Optional StopSign) → if_given sign_formed (sign_is ss) ≡ true
      → (a : Answer ℕ) (x : IndexRecord)
      → (let next = with_stop (is_some ss) (unwrap_or ss no_sign) r.index in
      indexed a x ≡ by_numbers (first (set_stop_guards (is_some ss) (numbers_in r.index))) (accepted_of (numbers_in next))
      next r.index) → outcome a (raw x r.log r.snapshot) ≡ run (set_stop (sign_is ss)) true r
  set_stop_run None fine a x e = set_run none refl a x e
  set_stop_run (Some g) fine a x e = set_run (some g) fine a x e

  -- ---- entries put into the log's words

  module _ (n : ℕ) (entries words : List ℕ) (whole : length entries ≡ n * width) where
    abbrev es : List Change
    es = entries_of n entries

    coded : entries ≡ words_of change_code es
    coded = sym (words_entries change_code change_ok n entries (omega arith)
        ∙ take_all (n * width) entries (omega arith))

    many : length es ≡ n
    many = entries_length change_code n entries

    -- after the batch
    module _ (put : words ≡ laid (length r.log) (spliced ((r.index.retained + r.index.batched) * width) 0 entries
        (take ((r.index.retained + r.index.batched) * width) r.log))) where
      words_are : stored log_words (s.run.retained ++ batch_with es s) ≡ words
      words_are =
          ap (stored log_words) (sym (append_assoc s.run.retained s.tail.batched es)
          ∙ sym (spliced_append (s.run.retained ++ s.tail.batched) es))
          ∙ rw (held_length s r st (log_formed r ok))
          (sym (put ∙ log_spliced s r st (log_formed r ok) (r.index.retained + r.index.batched) 0 entries es coded))

      batch_count : length (batch_with es s) ≡ r.index.batched + n
      batch_count = omega (arith, length-append s.tail.batched es, many, st.tail.count)

      flushed_all : Stands (joined (batch_with es s) [] s)
          (raw (with_entries (r.index.retained + (r.index.batched + n)) 0 r.index) words r.snapshot)
      flushed_all = record {
        run = record {
          start = st.run.start;
          count = omega (arith, length-append s.run.retained (batch_with es s), st.run.count, batch_count);
          snapshot = st.run.snapshot;
          snapshot_keys = st.run.snapshot_keys;
        };
        tail = record { count = refl; sized = st.tail.sized; stopped = st.tail.stopped; sign = st.tail.sign };
        marks = st.marks;
        log = ap (stored log_words) (append-nil (s.run.retained ++ batch_with es s)) ∙ words_are;
        snapshot = st.snapshot;
      }

      held_all : Stands (with_tail (waiting (batch_with es s) s.tail) s)
          (raw (with_entries r.index.retained (r.index.batched + n) r.index) words r.snapshot)
      held_all = record {
        run = st.run;
        tail =
            record { count = batch_count; sized = st.tail.sized; stopped = st.tail.stopped; sign = st.tail.sign };
        marks = st.marks;
        log = words_are;
        snapshot = st.snapshot;
      }

      fills_is : fills es s ≡ leb r.index.batch_size (r.index.batched + n)
      unfolding fills
      fills_is = rw (batch_count, st.tail.sized)

      flush_effect : fills es s ≡ true
          → Stands (effect (append es) s) (raw (flushed_at n r.index).0 words r.snapshot)
      unfolding effect appended
      flush_effect e = rw e flushed_all

      hold_effect : fills es s ≡ false
          → Stands (effect (append es) s) (raw (held_at n r.index).0 words r.snapshot)
      unfolding effect appended
      hold_effect e = rw e held_all

      abbrev flush_told : Option Flushed
      flush_told = some
          (record { accepted = accepted_of (numbers_in (flushed_at n r.index).0); count = r.index.batched + n })

      flush_reply_lem : fills es s ≡ true → flush_told ≡ reply_of (append es) s
      unfolding reply_of append_reply appended
      flush_reply_lem e =
          rw e
          (ap₂ (λ (a k : ℕ). some (record { accepted = a; count = k }))
          (ap accepted_of (sym (numbers_are (joined (batch_with es s) [] s)
          (raw (flushed_at n r.index).0 words r.snapshot) flushed_all)))
          (sym batch_count))

      hold_reply : fills es s ≡ false → none ≡ reply_of (append es) s
      unfolding reply_of append_reply
      hold_reply e = rw e

      module _ (fine : entries_formed es ≡ true) (pass : passes ≡ first (append_guards n (numbers_in r.index))) where
        bad : malformed (append es) ≡ false
        unfolding malformed
        bad = rw fine

        stands : passes ≡ first (further (append es) s)
        unfolding further
        stands = rw (many, numbers) pass

        pub append_run : outcome (replied (flushed_is (batched_with n r.index).1))
            (raw (batched_with n r.index).0 words r.snapshot) ≡ run (append es) true r
        unfolding batched_with
        append_run = go (leb r.index.batch_size (r.index.batched + n)) fills_is
          where
            go : (t : Bool) → fills es s ≡ t
                → outcome (replied (flushed_is (if t then flushed_at n r.index else held_at n r.index).1))
                (raw (if t then flushed_at n r.index else held_at n r.index).0 words r.snapshot)
                ≡ run (append es) true r
            go true e = call_stands (append es) r ok bad stands flush_told
                (raw (flushed_at n r.index).0 words r.snapshot) (flush_reply_lem e) (flush_effect e)
            go false e = call_stands (append es) r ok bad stands none
                (raw (held_at n r.index).0 words r.snapshot) (hold_reply e) (hold_effect e)

    -- before the batch
    module _ (put : words ≡ laid (length r.log) (spliced (r.index.retained * width) 0 entries
        (take ((r.index.retained + r.index.batched) * width) r.log))) where
      now_stands : Stands (appended_now es s)
          (raw (with_entries (r.index.retained + n) r.index.batched r.index) words r.snapshot)
      unfolding appended_now
      now_stands = record {
        run = record {
          start = st.run.start;
          count = omega (arith, length-append s.run.retained es, st.run.count, many);
          snapshot = st.run.snapshot;
          snapshot_keys = st.run.snapshot_keys;
        };
        tail = st.tail;
        marks = st.marks;
        log =
            ap (stored log_words) (append_assoc s.run.retained es s.tail.batched
            ∙ sym (spliced_before s.run.retained s.tail.batched es))
            ∙ rw st.run.count
            (sym (put ∙ log_spliced s r st (log_formed r ok) r.index.retained 0 entries es coded));
        snapshot = st.snapshot;
      }

      pub now_run : entries_formed es ≡ true → passes ≡ first (append_guards n (numbers_in r.index)) → (y : ℕ)
          → y ≡ accepted_of (numbers_in (with_entries (r.index.retained + n) r.index.batched r.index))
          → outcome (replied y) (raw (with_entries (r.index.retained + n) r.index.batched r.index) words
          r.snapshot) ≡ run (append_now es) true r
      unfolding malformed further effect reply_of
      now_run fine pass y e =
          call_stands (append_now es) r ok (rw fine) (rw (many, numbers) pass) y
          (raw (with_entries (r.index.retained + n) r.index.batched r.index) words r.snapshot)
          (e ∙ ap accepted_of (sym (numbers_are (appended_now es s) (raw
          (with_entries (r.index.retained + n) r.index.batched r.index) words r.snapshot) now_stands)))
          now_stands

-- the refusals of an append
module _ (r : Raw) (ok : formed r ≡ true) (n : ℕ) (entries : List ℕ)
    (fine : entries_formed (entries_of n entries) ≡ true) (k m : ℕ)
    (e : refuses k m ≡ first (append_guards n (numbers_in r.index))) where
  pub append_refused : outcome (refused k m) r ≡ run (append (entries_of n entries)) true r
  unfolding malformed further
  append_refused =
      call_refused (append (entries_of n entries)) r ok (rw fine) k m
      (rw (entries_length change_code n entries, numbers r ok) e)

  pub now_refused : outcome (refused k m) r ≡ run (append_now (entries_of n entries)) true r
  unfolding malformed further
  now_refused =
      call_refused (append_now (entries_of n entries)) r ok (rw fine) k m
      (rw (entries_length change_code n entries, numbers r ok) e)

-- an append that no refusal stops has room
pub append_room : (k : ℕ) (n : Numbers) → passes ≡ first (append_guards k n) → n.retained + n.batched + k ≤ entry_room
unfolding append_guards
append_room k n e = ltb-false entry_room (n.retained + n.batched + k) (passed (append_guards k n) (sym e)).1.1.0

-- what a flush says of a batch that is not empty
pub flush_answered : (x y : IndexRecord) (a : ℕ) → eqb x.batched 0 ≡ false → y ≡ all_flushed x
    → a ≡ accepted_of (numbers_in y)
    → some (record { accepted = a; count = x.batched }) ≡ flush_says x
unfolding flush_says
flush_answered x y a t e p =
    rw t
    (ap (λ (k : ℕ). some (record { accepted = k; count = x.batched }))
    (p ∙ ap (λ (z : IndexRecord). accepted_of (numbers_in z)) e))
