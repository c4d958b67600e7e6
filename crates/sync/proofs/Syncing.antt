-- A sync with a log part on a lent state: its refusals, and the state after it.
use Rattle.words.proofs.Prelude.{arith, ◌≡◌, refl, sym, ap, ap₂, ◌∙◌, ℕ, ◌+◌, ◌-◌, ◌*◌, ◌/◌, ◌≤◌, max, Bool, true}
use Rattle.words.proofs.Prelude.{false, ◌&&◌, ◌||◌, ltb, eqb-true, le-ltb, ltb-false, if◌then◌else◌, some, List}
use Rattle.words.proofs.Prelude.{append_assoc, ◌++◌, length-append, length, take, length-take-le, take_all}
use Prim.Native.Nat.{◌%◌}
use Rattle.std.specs.Prelude.{Option as Optional, Some, None, is_none, is_some, unwrap_or, Result, Ok, Err}
use Rattle.words.specs.Coded.{words_of}
use Rattle.words.proofs.CodedLaws.{spliced_sync, words_entries, entries_length}
use Rattle.entry.specs.{Limits.width, Limits.entry_room, Limits.key_room, Limits.last_index, Limits.log_words}
use Rattle.entry.specs.{Limits.snapshot_words, Change.Change, Change.change_code, Change.entries_of, Change.entries_in}
use Rattle.entry.specs.{Change.stored, Sign.no_sign, Guards.Guard, Guards.passes, Guards.refuses, Guards.first}
use Rattle.entry.specs.{Guards.refused}
use Rattle.entry.specs.{Guards.replied, Guards.refused_by, Refusals.number_of, Refusals.carried_of}
use Rattle.entry.specs.{declared.Ballot.Ballot}
use Rattle.entry.specs.{declared.Refusal.Refusal, declared.StopSign.StopSign}
use Rattle.entry.proofs.ChangeLaws.{change_ok}
use Rattle.entry.proofs.GuardLaws.{first_left, first_right, first_refuses, first_goes_on, Clear, clear, passed}
use Rattle.snapshot.specs.{Folds.fold_onto, Folds.merge, Calls.outcome as snapshot_outcome, Calls.folded}
use Rattle.snapshot.specs.{Calls.fold_guards, Inner.Holds, Inner.fold_written}
use Rattle.snapshot.proofs.Calling.{wrote_nothing, wrote_keys}
use Rattle.model.specs.Numbers.{Numbers, accepted_of, log_decided}
use Rattle.model.specs.Log.{Log, given, or_empty, folded_to, hole}
use Rattle.model.specs.{Compact.onto_guards, Diff.Given}
use Rattle.model.specs.Sync.{Part, PartNumbers, part_numbers, plain?, part_number_guards, part_guards, fold_then}
use Rattle.model.specs.Sync.{delta_onto}
use Rattle.model.specs.Sync.{delta?, run_then, part_synced}
use Rattle.model.specs.Calls.{Call, sync, malformed, further, sync_guards, synced, effect, reply_of}
use Rattle.state_cache.specs.{State.Raw, State.raw, State.numbers_in, State.formed, State.log_of, State.sign_or}
use Rattle.state_cache.specs.{Inner.Small}
use Rattle.state_cache.specs.{Inner.hole_in, Run.outcome, Run.run, declared.IndexRecord.IndexRecord}
use Rattle.state_cache.proofs.{Stands.Stands, Stands.stands_of, Stands.numbers_are, Stands.log_formed}
use Rattle.state_cache.proofs.Stands.{hole_is}
use Rattle.state_cache.proofs.{Runs.call_refused, Runs.call_stands, Changes.log_spliced}
use Rattle.internal_storage.specs.Replies.{sign_is}
use Rattle.internal_storage.proofs.Effects.{numbers}
use Rattle.compaction.proofs.Folding.{decided_high, snapshot_is, fold_is}
use Rattle.sync.specs.Requests.{given_by, delta_by, part_by, numbers_by}
use Rattle.sync.specs.Inner.{snapshot_then, marked, kept_by, synced_index, Fits, Taken, Syncs}
use Rattle.sync.specs.declared.LogSync.{LogSync}
use Rattle.sync.specs.declared.SnapshotType.{SnapshotType}
use Rattle.sync.specs.declared.SnapshotType.TheVariants.{Complete, Delta}
use Rattle.sync.proofs.Checking.{kept_few}

plain_by_lem : (k : Optional SnapshotType) (t : List Change) → plain? (given_by k t) ≡ is_none k
plain_by_lem None t = refl
plain_by_lem (Some Complete) t = refl
plain_by_lem (Some Delta) t = refl

delta_by_lem : (k : Optional SnapshotType) (t : List Change) → delta? (given_by k t) ≡ delta_by k
delta_by_lem None t = refl
delta_by_lem (Some Complete) t = refl
delta_by_lem (Some Delta) t = refl

-- the stop-sign that is asked for, as the record has it
given_is : (ss : Optional StopSign) → given (sign_is ss) ≡ is_some ss
given_is None = refl
given_is (Some g) = refl

sign_or_is : (ss : Optional StopSign) → sign_or (sign_is ss) ≡ unwrap_or ss no_sign
sign_or_is None = refl
sign_or_is (Some g) = refl

or-not : (h : Bool) → (h || false) ≡ h
or-not true = refl
or-not false = refl

or-true : (h : Bool) → (h || true) ≡ true
or-true true = refl
or-true false = refl

module _ (r : Raw) (x : LogSync) (incoming suffix : List ℕ) (w : Syncs r x incoming suffix) (b : Ballot) (d : ℕ) where
  abbrev s : Log
  s = log_of r

  abbrev n : ℕ
  n = length suffix / width

  abbrev kind : Optional SnapshotType
  kind = x.decided_snapshot

  abbrev c : Call
  c = sync b d (some (part_by x incoming suffix))

  abbrev gs : List Guard
  gs = part_number_guards d (numbers_by x n) (numbers_in r.index)

  ok : formed r ≡ true
  ok = w.ready.okay

  st : Stands s r
  st = stands_of r ok

  -- ---- refusals

  asks : part_numbers (part_by x incoming suffix) ≡ numbers_by x n
  asks = fields _ _ _ (plain_by_lem kind (entries_of x.keys incoming)) (entries_length change_code n suffix)
      (given_is x.stopsign)
    where
      fields : (t : Bool) (k : ℕ) (g : Bool) → t ≡ is_none kind → k ≡ n → g ≡ is_some x.stopsign
          → ◌≡◌ {A = PartNumbers} (record { idx = x.sync_idx.0; plain = t; count = k; stop = g }) (numbers_by x n)
      fields t k g e q u = rw (e, q, u)

  -- those of a delta alone: 16 and 8
  abbrev last_guards_lem : List Guard
  last_guards_lem =
      let g : Given = given_by kind (entries_of x.keys incoming) in
      onto_guards (delta? g) s (fold_then g s)

  guards_are : first (further c s) ≡ first (gs ++ last_guards_lem)
  unfolding further sync_guards part_guards
  guards_are = ap₂ (λ (a : PartNumbers) (m : Numbers). first (part_number_guards d a m ++ last_guards_lem))
      asks (numbers r ok)

  fine : malformed c ≡ false
  unfolding malformed
  fine = rw w.fine

  pub sync_refused : (m k : ℕ) → refuses m k ≡ first gs → outcome (refused m k) r ≡ run c true r
  sync_refused m k e = call_refused c r ok fine m k (first_left gs last_guards_lem m k e ∙ sym guards_are)

  module _ (pass : passes ≡ first gs) where
    clr : Clear gs
    clr = clear gs (passed gs (sym pass))

    pub fits : Fits x n (marked b d r.index) r.log suffix
    unfolding part_number_guards
    fits = record {
      up = omega (arith, w.ready.numbers.low, ltb-false x.sync_idx.0 r.index.decided.0 (clr 5));
      few = kept_few x.sync_idx.0 (numbers_in r.index) (is_none kind) (kept_by x n r.index) refl (clr 7);
      room = ltb-false entry_room (kept_by x n r.index + n + r.index.batched) (clr 1);
      laid_out = w.ready.log;
      whole = omega (arith, eqb-true (length suffix % width) 0 w.whole);
    }

    -- the accepted index after it fits
    pub fits_small : (keys : ℕ) (z : IndexRecord) → z ≡ synced_index x n keys (marked b d r.index)
        → Small (numbers_in z)
    unfolding part_number_guards
    fits_small keys z e =
        rw e
        (record {
          few = omega (arith, fits.room);
          waiting = omega (arith, fits.room);
          low = low (is_none kind);
        })
      where
        high : x.sync_idx.0 ≤ last_index
        high = omega (
          arith,
          ltb-false last_index
              (x.sync_idx.0 + n + (if is_some x.stopsign then 1 else 0) + r.index.batched) (clr 9),
        )

        low : (t : Bool) → (if t then r.index.compacted else x.sync_idx).0 ≤ last_index
        low true = omega (arith, fits.up, high)
        low false = high

    holed_is : (delta? (given_by kind (entries_of x.keys incoming)) && hole s.run)
        ≡ (delta_by kind && hole_in r.index)
    holed_is = ap₂ (λ (t u : Bool). t && u) (delta_by_lem kind (entries_of x.keys incoming)) (hole_is s r st)

    pub sync_holed : (delta_by kind && hole_in r.index) ≡ true → outcome (refused 16 0) r ≡ run c true r
    sync_holed e =
        call_refused c r ok fine 16 0
        (sym (guards_are ∙ first_right gs last_guards_lem pass ∙ first_refuses 16 0 _ _ (holed_is ∙ e)))

    -- ---- the snapshot then held

    abbrev held : List Change
    held = entries_of r.index.keys r.snapshot

    abbrev decided : List Change
    decided = entries_of (log_decided (numbers_in r.index) - r.index.compacted.0) r.log

    abbrev lent : List Change
    lent = entries_of x.keys incoming

    delta_is : delta_onto lent s ≡ fold_onto (fold_onto held decided) lent
    unfolding delta_onto merge
    delta_is =
        let last : ℕ = log_decided (numbers_in r.index) in
        ap (λ (t : List Change). fold_onto t lent)
        (ap (λ (m : Numbers). folded_to (log_decided m) s.run) (numbers r ok)
        ∙ sym (fold_is r ok last (decided_high (numbers_in r.index) w.ready.numbers last refl)))

    few_keys : (k : ℕ) (ws : List ℕ) → Holds snapshot_words k ws → ltb key_room (length (entries_of k ws)) ≡ false
    few_keys k ws h = le-ltb key_room (length (entries_of k ws))
        (omega (arith, entries_length change_code k ws, h.laid.fits))

    -- 8 comes of a delta alone
    tested : (k : Optional SnapshotType) → (is_none k ≡ false → Holds snapshot_words x.keys incoming)
        → first (fold_guards (snapshot_then k held decided lent)) ≡ first (fold_guards (fold_then (given_by k lent) s))
    unfolding first
    tested None h = rw (few_keys r.index.keys r.snapshot w.ready.snapshot)
    tested (Some Complete) h = rw (few_keys x.keys incoming (h refl))
    tested (Some Delta) h = ap (λ (u : List Change). first (fold_guards u)) (sym delta_is)

    module _ (whole : (delta_by kind && hole_in r.index) ≡ false) (a : Result ℕ Refusal) (exit : List ℕ)
        (f : snapshot_outcome (folded a) exit ≡ fold_written (snapshot_then kind held decided lent) r.snapshot) where
      abbrev snapshot : List Change
      snapshot = snapshot_then kind held decided lent

      verdict : first (fold_guards snapshot) ≡ first (further c s)
      verdict = tested kind w.lent ∙ sym (first_goes_on 16 0 _ _ (holed_is ∙ whole))
          ∙ sym (first_right gs last_guards_lem pass) ∙ sym guards_are

      pub sync_over : (y : Refusal) → a ≡ Err y
          → outcome (refused_by y) (raw r.index r.log exit) ≡ run c true r
      sync_over y e =
          let q = wrote_nothing (first (fold_guards snapshot)) snapshot r.snapshot exit a f y e in
          ap (λ (ws : List ℕ). outcome (refused_by y) (raw r.index r.log ws)) q.1
          ∙ call_refused c r ok fine (number_of y) (carried_of y) (sym q.0 ∙ verdict)

      -- ---- the state after it

      module _ (keys : ℕ) (e : a ≡ Ok keys) (z : IndexRecord) (words : List ℕ)
          (m : Taken x n keys (marked b d r.index) r.log suffix z words) where
        wrote : (first (fold_guards snapshot) ≡ passes) × (keys ≡ length snapshot)
            × (exit ≡ stored snapshot_words snapshot)
        wrote = wrote_keys (first (fold_guards snapshot)) snapshot r.snapshot exit a f keys e

        abbrev new : List Change
        new = entries_in suffix

        coded : suffix ≡ words_of change_code new
        coded = sym (words_entries change_code change_ok n suffix (omega (arith, fits.whole))
            ∙ take_all (n * width) suffix (omega (arith, fits.whole)))

        -- the run, by the snapshot's kind
        abbrev part_as : Optional SnapshotType → Part
        part_as k = record { idx = x.sync_idx.0; snapshot = given_by k lent; suffix = new; stop = sign_is x.stopsign }

        abbrev kept_as : Optional SnapshotType → ℕ
        kept_as k = if is_none k then x.sync_idx.0 - r.index.compacted.0 else 0

        starts : (k : Optional SnapshotType) → (run_then (part_as k) s).compacted
            ≡ (if is_none k then r.index.compacted else x.sync_idx).0
        unfolding run_then
        starts None = st.run.start
        starts (Some Complete) = refl
        starts (Some Delta) = refl

        keeps : (k : Optional SnapshotType) → (run_then (part_as k) s).retained ≡ take (kept_as k) s.run.retained ++ new
        unfolding run_then
        keeps None = ap (λ (j : ℕ). take (x.sync_idx.0 - j) s.run.retained ++ new) st.run.start
        keeps (Some Complete) = refl
        keeps (Some Delta) = refl

        holds : (k : Optional SnapshotType) → given (run_then (part_as k) s).held ≡ (r.index.snapshot_held || is_some k)
        unfolding run_then
        holds None = st.run.snapshot ∙ sym (or-not r.index.snapshot_held)
        holds (Some Complete) = sym (or-true r.index.snapshot_held)
        holds (Some Delta) = sym (or-true r.index.snapshot_held)

        shows : (k : Optional SnapshotType) → or_empty (run_then (part_as k) s).held ≡ snapshot_then k held decided lent
        unfolding run_then
        shows None = sym (snapshot_is r ok)
        shows (Some Complete) = refl
        shows (Some Delta) = delta_is

        few : kept_as kind ≤ length s.run.retained
        few = omega (arith, fits.few, st.run.count)

        stands : Stands (part_synced b d (part_by x incoming suffix) s) (raw z words exit)
        unfolding part_synced
        stands = rw m.index (record {
          run = record {
            start = starts kind;
            count =
                ap length (keeps kind) ∙ length-append (take (kept_as kind) s.run.retained) new
                ∙ ap₂ (λ (i j : ℕ). i + j) (length-take-le (kept_as kind) s.run.retained few)
                (entries_length change_code n suffix);
            snapshot = holds kind;
            snapshot_keys = ap length (shows kind) ∙ sym wrote.1;
          };
          tail = record {
            count = st.tail.count;
            sized = st.tail.sized;
            stopped = given_is x.stopsign;
            sign = sign_or_is x.stopsign;
          };
          marks = record { index = ap (max d) st.marks.index; promised = st.marks.promised; rounded = refl };
          log =
              ap (λ (es : List Change). stored log_words (es ++ s.tail.batched)) (keeps kind)
              ∙ ap (stored log_words) (append_assoc (take (kept_as kind) s.run.retained) new s.tail.batched
              ∙ sym (spliced_sync (kept_as kind) s.run.retained s.tail.batched new few))
              ∙ rw st.run.count (sym (m.words ∙ log_spliced s r st (log_formed r ok) (kept_as kind)
              (r.index.retained - kept_as kind) suffix new coded));
          snapshot = ap (stored snapshot_words) (shows kind) ∙ sym wrote.2;
        })

        pub sync_stands : (y : ℕ) → y ≡ accepted_of (numbers_in z)
            → outcome (replied y) (raw z words exit) ≡ run c true r
        unfolding effect reply_of synced
        sync_stands y q =
            call_stands c r ok fine (sym wrote.0 ∙ verdict) y (raw z words exit)
            (q ∙ ap accepted_of
            (sym (numbers_are (part_synced b d (part_by x incoming suffix) s) (raw z words exit) stands))) stands
