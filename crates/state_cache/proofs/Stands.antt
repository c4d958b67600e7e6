-- When a lent state stands for a log: number by number and word by word. It is then the one that `raw_of` gives.
use Rattle.words.proofs.Prelude.{arith, ◌≡◌, refl, sym, ap, ap₂, ◌∙◌, ℕ, ◌+◌, ◌*◌, ◌≤◌, Bool, true, false, and-true}
use Rattle.words.proofs.Prelude.{◌&&◌, ◌||◌, not, eqb, ltb, leb, not-true, eqb-true, le-leb, leb-true, if◌then◌else◌}
use Rattle.words.proofs.Prelude.{Option, none, some, List, ◌++◌, length-append, length, drop, replicate}
use Rattle.words.specs.{All.all_of, Words.all_zero, Coded.entries_at}
use Rattle.words.proofs.Tests.{and_left, and_right, both_true}
use Rattle.words.proofs.Alls.{all_join, all_left, all_right, zeros_are}
use Rattle.words.proofs.CodedLaws.{entries_length, entries_add, entries_first, entries_second}
use Rattle.entry.specs.Limits.{width, key_room, log_words, snapshot_words, most_nodes, most_metadata}
use Rattle.entry.specs.Change.{Change, change_code, change_formed, entries_formed, entries_of, stored, stored_in}
use Rattle.entry.specs.Sign.{sign_formed, sign_blank, blank, no_sign}
use Rattle.entry.specs.declared.Ballot.{Ballot}
use Rattle.entry.specs.declared.StopSign.{StopSign}
use Rattle.entry.proofs.ChangeLaws.{change_ok}
use Rattle.entry.proofs.SliceLaws.{laid_of, laid_stored, stored_laid, stored_entries}
use Rattle.snapshot.specs.{Folds.rising, Calls.snapshot_formed}
use Rattle.snapshot.proofs.Calling.{snapshot_holds, snapshot_stored}
use Rattle.model.specs.Numbers.{Numbers, numbers_formed}
use Rattle.model.specs.Log.{Run, Tail, Marks, Log, given, if_given, numbers_of, or_empty, hole, keys_formed, well_formed}
use Rattle.model.proofs.Forms.{sound_of, Formed, formed_of, of_formed}
use Rattle.state_cache.specs.State.{Raw, numbers_in, sign_held, snapshot_held, formed, log_of, sign_or, index_of, raw_of}
use Rattle.state_cache.specs.Inner.{Ready, hole_in}
use Rattle.state_cache.specs.declared.IndexRecord.{IndexRecord}

-- ---- a record's numbers and words against a log's parts

pub record SameRun (t : Run) (compacted retained : ℕ) (held : Bool) (keys : ℕ) : Type 0 where
  pub start : t.compacted ≡ compacted
  pub count : length t.retained ≡ retained
  pub snapshot : given t.held ≡ held
  pub snapshot_keys : length (or_empty t.held) ≡ keys

pub record SameTail (t : Tail) (batched size : ℕ) (held : Bool) (stop : StopSign) : Type 0 where
  pub count : length t.batched ≡ batched
  pub sized : t.size ≡ size
  pub stopped : given t.sign ≡ held
  pub sign : sign_or t.sign ≡ stop

pub record SameMarks (t : Marks) (decided : ℕ) (promise round : Ballot) : Type 0 where
  pub index : t.decided ≡ decided
  pub promised : t.promise ≡ promise
  pub rounded : t.round ≡ round

pub record Stands (t : Log) (x : Raw) : Type 0 where
  pub run : SameRun t.run x.index.compacted.0 x.index.retained x.index.snapshot_held x.index.keys
  pub tail : SameTail t.tail x.index.batched x.index.batch_size x.index.stop_held x.index.stop
  pub marks : SameMarks t.marks x.index.decided.0 x.index.promise x.index.accepted_round
  pub log : stored log_words (t.run.retained ++ t.tail.batched) ≡ x.log
  pub snapshot : stored snapshot_words (or_empty t.run.held) ≡ x.snapshot

pub stands_raw : (t : Log) (x : Raw) → Stands t x → raw_of t ≡ x
unfolding raw_of index_of
stands_raw t x s =
    fields _ _ _ _ _ _ _ _ _ _ _ _ _ s.tail.sized s.run.count s.tail.count s.run.start s.marks.index
    s.marks.promised s.marks.rounded
    s.run.snapshot s.run.snapshot_keys s.tail.stopped s.tail.sign s.log s.snapshot
  where
    fields : (a b c d e : ℕ) (f g : Ballot) (h : Bool) (i : ℕ) (j : Bool) (k : StopSign) (l m : List ℕ)
        → a ≡ x.index.batch_size → b ≡ x.index.retained → c ≡ x.index.batched → d ≡ x.index.compacted.0
        → e ≡ x.index.decided.0
        → f ≡ x.index.promise → g ≡ x.index.accepted_round → h ≡ x.index.snapshot_held → i ≡ x.index.keys
        → j ≡ x.index.stop_held → k ≡ x.index.stop
        → l ≡ x.log → m ≡ x.snapshot
        → ◌≡◌ {A = Raw} (record {
          index = record {
            batch_size = a;
            retained = b;
            batched = c;
            compacted = record { 0 = d };
            decided = record { 0 = e };
            promise = f;
            accepted_round = g;
            snapshot_held = h;
            keys = i;
            stop_held = j;
            stop = k;
          };
          log = l;
          snapshot = m;
        }) x
    fields a b c d e f g h i j k l m p1 p2 p3 p4 p5 p6 p7 p8 p9 p10 p11 p12 p13 =
        rw (p1, p2, p3, p4, p5, p6, p7, p8, p9, p10, p11, p12, p13)

-- ---- what a well-formed state is known to be

record Facts (r : Raw) : Type 0 where
  ready : Ready r
  sign : sign_held r.index ≡ true
  none_held : (r.index.snapshot_held || eqb r.index.keys 0) ≡ true

-- a snapshot that is not held is in form with no key
none_formed : (ws : List ℕ) → blank snapshot_words ws ≡ snapshot_formed 0 ws
unfolding blank snapshot_formed stored_in entries_at rising all_of
none_formed ws = sym (and-true (eqb (length ws) snapshot_words && all_zero ws))

pub snapshot_tests : (x : IndexRecord) (ws : List ℕ)
    → snapshot_held x ws ≡ (snapshot_formed x.keys ws && (x.snapshot_held || eqb x.keys 0))
unfolding snapshot_held
snapshot_tests x ws = go x.snapshot_held (eqb x.keys 0) refl
  where
    kept : (a : Bool) → (a || false) ≡ (a && true)
    kept true = refl
    kept false = refl

    none : (a : Bool) → (a && false) ≡ false
    none true = refl
    none false = refl

    go : (h k : Bool) → eqb x.keys 0 ≡ k
        → ((h && snapshot_formed x.keys ws) || (not h && (k && blank snapshot_words ws)))
        ≡ (snapshot_formed x.keys ws && (h || k))
    go true k e = kept (snapshot_formed x.keys ws)
    go false true e =
        none_formed ws ∙ sym (ap (λ (n : ℕ). snapshot_formed n ws && true) (eqb-true x.keys 0 e)
        ∙ and-true (snapshot_formed 0 ws))
    go false false e = sym (none (snapshot_formed x.keys ws))

facts_of : (r : Raw) → formed r ≡ true → Facts r
unfolding formed
facts_of r e =
    let e₁ = and_right (numbers_formed (numbers_in r.index)) _ e in
    let e₂ = and_right (sign_held r.index) _ e₁ in
    let e₃ = sym (snapshot_tests r.index r.snapshot)
    ∙ and_right (stored_in log_words (r.index.retained + r.index.batched) r.log) _ e₂ in
    record {
      ready = record {
        okay = e;
        numbers = sound_of (numbers_in r.index) (and_left _ _ e);
        log = laid_of log_words (r.index.retained + r.index.batched) r.log (and_left _ _ e₂);
        snapshot = snapshot_holds r.index.keys r.snapshot (and_left _ _ e₃);
      };
      sign = and_left _ _ e₁;
      none_held = and_right (snapshot_formed r.index.keys r.snapshot) _ e₃;
    }

pub ready_of : (r : Raw) → formed r ≡ true → Ready r
ready_of r e = (facts_of r e).ready

-- a blank stop-sign is the one that stands for none
blank_is : (n : ℕ) (s : List ℕ) → blank n s ≡ true → s ≡ replicate n 0
unfolding blank
blank_is n s e =
    zeros_are s (and_right (eqb (length s) n) (all_zero s) e)
    ∙ ap (λ (k : ℕ). replicate k 0) (eqb-true (length s) n (and_left (eqb (length s) n) (all_zero s) e))

sign_blank_lem : (g : StopSign) → sign_blank g ≡ true → g ≡ no_sign
unfolding sign_blank
sign_blank_lem g e =
    let e₁ = and_right (eqb g.config_id 0) _ e in
    let e₂ = and_right (eqb g.node_count 0) _ e₁ in
    let e₃ = and_right (eqb g.metadata_len 0) _ e₂ in
    let e₄ = and_right (not g.metadata_held) _ e₃ in
    fields g.config_id g.node_count g.nodes g.metadata_held g.metadata_len g.metadata
    (eqb-true _ _ (and_left _ _ e))
    (eqb-true _ _ (and_left _ _ e₁))
    (blank_is most_nodes g.nodes (and_left _ _ e₄))
    (not-true g.metadata_held (and_left _ _ e₃))
    (eqb-true _ _ (and_left _ _ e₂))
    (blank_is most_metadata g.metadata (and_right (blank most_nodes g.nodes) _ e₄))
  where
    fields : (a b : ℕ) (n : List ℕ) (h : Bool) (l : ℕ) (m : List ℕ) → a ≡ 0 → b ≡ 0 → n ≡ replicate most_nodes 0
        → h ≡ false → l ≡ 0 → m ≡ replicate most_metadata 0
        → ◌≡◌ {A = StopSign} (record
        { config_id = a; node_count = b; nodes = n; metadata_held = h; metadata_len = l; metadata = m })
        no_sign
    fields a b n h l m p q s t u v = rw (p, q, s, t, u, v)

-- what is held by a flag
pub given_by : {A : Type 0} (b : Bool) (x : A) → given (if b then some x else none) ≡ b
given_by true x = refl
given_by false x = refl

stop_by : (b : Bool) (g : StopSign) → ((b && sign_formed g) || (not b && sign_blank g)) ≡ true
    → sign_or (if b then some g else none) ≡ g
stop_by true g e = refl
stop_by false g e = sym (sign_blank_lem g e)

snapshot_by : (b : Bool) (n : ℕ) (ws : List ℕ) → (b || eqb n 0) ≡ true
    → or_empty (if b then some (entries_of n ws) else none) ≡ entries_of n ws
snapshot_by true n ws e = refl
snapshot_by false n ws e = let z : n ≡ 0 = eqb-true n 0 e in rw z (unfold entries_at in refl)

-- a well-formed state stands for its log
module _ (r : Raw) (ok : formed r ≡ true) where
  f : Facts r
  f = facts_of r ok

  snapshot_is : or_empty (log_of r).run.held ≡ entries_of r.index.keys r.snapshot
  unfolding log_of
  snapshot_is = snapshot_by r.index.snapshot_held r.index.keys r.snapshot f.none_held

  entries_are : (log_of r).run.retained ++ (log_of r).tail.batched
      ≡ entries_of (r.index.retained + r.index.batched) r.log
  unfolding log_of
  entries_are = sym (entries_add change_code r.index.retained r.index.batched r.log)

  pub stands_of : Stands (log_of r) r
  stands_of = record {
    run = record {
      start = unfold log_of in refl;
      count = unfold log_of in entries_length change_code r.index.retained r.log;
      snapshot = unfold log_of in given_by r.index.snapshot_held (entries_of r.index.keys r.snapshot);
      snapshot_keys = ap length snapshot_is ∙ entries_length change_code r.index.keys r.snapshot;
    };
    tail = record {
      count = unfold log_of in entries_length change_code r.index.batched
          (drop (r.index.retained * width) r.log);
      sized = unfold log_of in refl;
      stopped = unfold log_of in given_by r.index.stop_held r.index.stop;
      sign = unfold log_of in stop_by r.index.stop_held r.index.stop (unfold sign_held in f.sign);
    };
    marks = record { index = unfold log_of in refl; promised = unfold log_of in refl; rounded = unfold log_of in refl };
    log = rw entries_are (sym (laid_stored log_words (r.index.retained + r.index.batched) r.log f.ready.log));
    snapshot = rw snapshot_is
        (sym (laid_stored snapshot_words r.index.keys r.snapshot f.ready.snapshot.laid));
  }

  pub raw_is : raw_of (log_of r) ≡ r
  raw_is = stands_raw (log_of r) r stands_of

-- its numbers are the log's
pub numbers_are : (t : Log) (x : Raw) → Stands t x → numbers_of t ≡ numbers_in x.index
numbers_are t x s =
    fields _ _ _ _ _ _ s.run.start s.marks.index s.run.count s.tail.count s.tail.sized
    s.tail.stopped
  where
    fields : (a b c d e : ℕ) (f : Bool) → a ≡ x.index.compacted.0 → b ≡ x.index.decided.0 → c ≡ x.index.retained
        → d ≡ x.index.batched
        → e ≡ x.index.batch_size → f ≡ x.index.stop_held
        → ◌≡◌ {A = Numbers} (record { compacted = a; decided = b; retained = c; batched = d; size = e; stop = f })
        (numbers_in x.index)
    fields a b c d e f p q u v w z = rw (p, q, u, v, w, z)

pub hole_is : (t : Log) (x : Raw) → Stands t x → hole t.run ≡ hole_in x.index
hole_is t x s = ap₂ (λ (i : ℕ) (held : Bool). ltb 0 i && not held) s.run.start s.run.snapshot

-- ---- the log of a well-formed state is well formed

snapshot_formed_by : (b : Bool) (t : List Change) → keys_formed t ≡ true
    → if_given keys_formed (if b then some t else none) ≡ true
snapshot_formed_by true t e = e
snapshot_formed_by false t e = refl

sign_formed_by : (b : Bool) (g : StopSign) → ((b && sign_formed g) || (not b && sign_blank g)) ≡ true
    → if_given sign_formed (if b then some g else none) ≡ true
sign_formed_by true g e = go (sign_formed g) e
  where
    go : (t : Bool) → (t || false) ≡ true → t ≡ true
    go true e = refl
    go false e = e
sign_formed_by false g e = refl

snapshot_of : (r : Raw) → Ready r → keys_formed (entries_of r.index.keys r.snapshot) ≡ true
unfolding keys_formed
snapshot_of r g =
    let t : List Change = entries_of r.index.keys r.snapshot in
    let few : length t ≤ key_room =
    omega (arith, entries_length change_code r.index.keys r.snapshot, g.snapshot.laid.fits) in
    both_true (rising t) _ g.snapshot.rises
    (both_true (leb (length t) key_room) (entries_formed t) (le-leb (length t) key_room few) g.snapshot.laid.fine)

pub log_formed : (r : Raw) → formed r ≡ true → well_formed (log_of r) ≡ true
log_formed r ok = of_formed (log_of r) (record {
  numbers = rw (numbers_are (log_of r) r (stands_of r ok)) g.ready.numbers;
  entries = all_left change_formed (log_of r).run.retained (log_of r).tail.batched all;
  batch = all_right change_formed (log_of r).run.retained (log_of r).tail.batched all;
  snapshot = unfold log_of in snapshot_formed_by r.index.snapshot_held (entries_of r.index.keys r.snapshot)
      (snapshot_of r g.ready);
  stop = unfold log_of in sign_formed_by r.index.stop_held r.index.stop (unfold sign_held in g.sign);
})
  where
    g : Facts r
    g = facts_of r ok

    all : entries_formed ((log_of r).run.retained ++ (log_of r).tail.batched) ≡ true
    all = rw (entries_are r ok) g.ready.log.fine

-- ---- the state that stands for a well-formed log is well formed, and stands for it

sign_blank_none : sign_blank no_sign ≡ true
unfolding sign_blank blank all_of
sign_blank_none = refl

sign_held_lem : (o : Option StopSign) → if_given sign_formed o ≡ true
    → ((given o && sign_formed (sign_or o)) || (not (given o) && sign_blank (sign_or o))) ≡ true
sign_held_lem none e = sign_blank_none
sign_held_lem (some g) e = rw e

keys_held : (o : Option (List Change)) → (given o || eqb (length (or_empty o)) 0) ≡ true
keys_held none = refl
keys_held (some t) = refl

record SnapshotFacts (t : List Change) : Type 0 where
  rises : rising t ≡ true
  few : length t ≤ key_room
  fine : entries_formed t ≡ true

snapshot_facts : (o : Option (List Change)) → if_given keys_formed o ≡ true → SnapshotFacts (or_empty o)
unfolding keys_formed rising all_of
snapshot_facts none e = record { rises = refl; few = omega arith; fine = refl }
snapshot_facts (some t) e =
    let q = and_right (rising t) (leb (length t) key_room && entries_formed t) e in
    record {
      rises = and_left (rising t) (leb (length t) key_room && entries_formed t) e;
      few = leb-true (length t) key_room (and_left (leb (length t) key_room) (entries_formed t) q);
      fine = and_right (leb (length t) key_room) (entries_formed t) q;
    }

sign_again : (o : Option StopSign) → (if given o then some (sign_or o) else none) ≡ o
sign_again none = refl
sign_again (some g) = refl

held_again : (o : Option (List Change)) (t : List Change) → t ≡ or_empty o → (if given o then some t else none) ≡ o
held_again none t e = refl
held_again (some u) t e = ap some e

module _ (s : Log) (w : well_formed s ≡ true) where
  h : Formed s
  h = formed_of s w

  snapshot : SnapshotFacts (or_empty s.run.held)
  snapshot = snapshot_facts s.run.held h.snapshot

  log_stored : stored_in log_words (length s.run.retained + length s.tail.batched)
      (stored log_words (s.run.retained ++ s.tail.batched)) ≡ true
  log_stored =
      let n : length (s.run.retained ++ s.tail.batched)
      ≡ length s.run.retained + length s.tail.batched =
      length-append s.run.retained s.tail.batched in
      rw (← n)
      (stored_laid log_words (s.run.retained ++ s.tail.batched) (omega (arith, h.numbers.room))
      (all_join change_formed s.run.retained s.tail.batched h.entries h.batch))

  pub raw_formed : formed (raw_of s) ≡ true
  unfolding formed raw_of index_of sign_held well_formed
  raw_formed =
      both_true (numbers_formed (numbers_of s)) _ (and_left (numbers_formed (numbers_of s)) _ w)
      (both_true ((given s.tail.sign && sign_formed (sign_or s.tail.sign))
      || (not (given s.tail.sign) && sign_blank (sign_or s.tail.sign))) _
      (sign_held_lem s.tail.sign h.stop)
      (both_true (stored_in log_words (length s.run.retained + length s.tail.batched)
      (stored log_words (s.run.retained ++ s.tail.batched))) _ log_stored
      (snapshot_tests (index_of s) (stored snapshot_words (or_empty s.run.held))
      ∙ both_true (snapshot_formed (length (or_empty s.run.held)) (stored snapshot_words (or_empty s.run.held))) _
      (snapshot_stored (or_empty s.run.held) snapshot.few snapshot.fine snapshot.rises)
      (keys_held s.run.held))))

  pub log_of_raw : log_of (raw_of s) ≡ s
  log_of_raw = unfold log_of raw_of index_of in fields _ _ _ _ retained batched held (sign_again s.tail.sign)
    where
      retained : entries_of (length s.run.retained) (stored log_words (s.run.retained ++ s.tail.batched))
          ≡ s.run.retained
      retained = entries_first change_code change_ok log_words s.run.retained s.tail.batched h.entries

      batched : entries_of (length s.tail.batched)
          (drop (length s.run.retained * width) (stored log_words (s.run.retained ++ s.tail.batched)))
          ≡ s.tail.batched
      batched = entries_second change_code change_ok log_words s.run.retained s.tail.batched h.batch

      held : (if given s.run.held then some (entries_of (length (or_empty s.run.held))
          (stored snapshot_words (or_empty s.run.held))) else none) ≡ s.run.held
      held = held_again s.run.held _ (stored_entries snapshot_words (or_empty s.run.held) snapshot.fine)

      fields : (a b : List Change) (k : Option (List Change)) (g : Option StopSign) → a ≡ s.run.retained
          → b ≡ s.tail.batched → k ≡ s.run.held → g ≡ s.tail.sign
          → ◌≡◌ {A = Log} (record {
            run = record { compacted = s.run.compacted; retained = a; held = k };
            tail = record { batched = b; size = s.tail.size; sign = g };
            marks = s.marks;
          }) s
      fields a b k g p q u v = rw (p, q, u, v)
