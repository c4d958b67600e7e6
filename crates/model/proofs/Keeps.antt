-- Every call leaves a well-formed state well formed: so refusal 12 is given to no state that a fresh log comes to.
use Rattle.words.proofs.Prelude.{arith, ◌≡◌, refl, ℕ, ◌+◌, ◌-◌, ◌≤◌, min, max, Bool, true, false, ◌&&◌, eqb, ltb}
use Rattle.words.proofs.Prelude.{not-false, ltb-true, ltb-false, leb-false, if◌then◌else◌, Option, none, some, List, []}
use Rattle.words.proofs.Prelude.{◌∷◌, ◌++◌, length-drop, length-take, length-append, length, take}
use Rattle.words.specs.All.{all_of}
use Rattle.words.proofs.Tests.{and_left, and_right, or_left, or_right, either}
use Rattle.words.proofs.Alls.{all_join, all_take, all_drop}
use Rattle.entry.specs.{Limits.entry_room, Limits.key_room, Limits.last_index, Limits.largest_batch, Change.Change}
use Rattle.entry.specs.{Change.change_formed, Change.entries_formed, Sign.sign_formed, Guards.Verdict, Guards.passes}
use Rattle.entry.specs.{Guards.refuses, Guards.first, declared.Ballot.Ballot, declared.StopSign.StopSign}
use Rattle.entry.specs.{declared.Compaction.Compaction, declared.Compaction.TheVariants.Trim}
use Rattle.entry.specs.{declared.Compaction.TheVariants.Snapshot}
use Rattle.entry.proofs.GuardLaws.{Passed, passed, passed_right, Clear, clear}
use Rattle.model.specs.Numbers.{Numbers, end_of, accepted_of, stop_decided, log_decided}
use Rattle.model.specs.Log.{Log, given, if_given, numbers_of, folded_to, keys_formed, well_formed, with_marks, deciding}
use Rattle.model.specs.Log.{fresh_log}
use Rattle.model.specs.Append.{append_guards, append_stop_guards, set_stop_guards, joined, batch_with, fills, appended}
use Rattle.model.specs.Append.{appended_now, flushed, stop_appended, stop_set, reloaded}
use Rattle.model.specs.Backend.{Op, Lent, Midst, step, steps, step_guards, last_guards, op_guards, midst}
use Rattle.model.specs.Backend.{write_guards, list_written}
use Rattle.model.specs.Compact.{target, passes_start, folded_upto, compact_guards, held_then, compacted_to}
use Rattle.model.specs.Diff.{Given, plain, complete, delta}
use Rattle.model.specs.Sync.{Part, part_formed, delta_onto, run_then, part_number_guards, part_guards, round_guards}
use Rattle.model.specs.Sync.{part_synced}
use Rattle.model.specs.Calls.{Call, query, append, append_now, flush, flush_entries, append_stop, set_stop}
use Rattle.model.specs.Calls.{set_promise, decide, compact, sync, reload, write, malformed, decide_guards}
use Rattle.model.specs.Calls.{sync_guards, further, guards, synced, effect, after, state_after}
use Rattle.model.proofs.Forms.{log_min, Formed, formed_of, of_formed, snapshot_held_lem, snapshot_merge, of_snapshot}
use Rattle.model.proofs.Forms.{snapshot_folded}

-- log-decided is decided, or one less
pub log_near : (n : Numbers) → (n.decided ≤ log_decided n + 1) × (log_decided n ≤ n.decided)
unfolding log_decided
log_near n = go (stop_decided n)
  where
    go : (t : Bool) → (n.decided ≤ (if t then n.decided - 1 else n.decided) + 1)
        × ((if t then n.decided - 1 else n.decided) ≤ n.decided)
    go true = (omega arith, omega arith)
    go false = (omega arith, omega arith)

pub unstopped : (n : Numbers) → stop_decided n ≡ false → log_decided n ≡ n.decided
unfolding log_decided
unstopped n e = rw e

-- a compaction ends at its index or at log-decided, whichever is the lesser
pub target_least : (i : ℕ) (n : Numbers) → target (some i) n ≡ min i (log_decided n)
unfolding target
target_least i n = go (ltb i n.decided) refl
  where
    go : (t : Bool) → ltb i n.decided ≡ t → (if t then i else log_decided n) ≡ min i (log_decided n)
    go true e = omega (arith, ltb-true i n.decided e, log_near n)
    go false e = omega (arith, ltb-false i n.decided e, log_near n)

pub target_range : (upto : Option ℕ) (n : Numbers) → target upto n ≤ log_decided n
target_range none n = unfold target in omega arith
target_range (some i) n = omega (arith, target_least i n)

nothing_formed : entries_formed [] ≡ true
unfolding all_of
nothing_formed = refl

-- "and" of a flag and a test that fails: with the flag, the test fails
flagged : (t : Bool) (n : ℕ) → (t && ltb 0 n) ≡ false → t ≡ true → n ≡ 0
flagged t n e q = omega (arith, ltb-false 0 n (rw q at e))

unsigned : (t : Bool) → t ≡ false → ◌≡◌ {A = ℕ} (if t then 1 else 0) 0
unsigned t e = rw e

abbrev pub part : ℕ → Given → List Change → Option StopSign → Part
part i g es z = record { idx = i; snapshot = g; suffix = es; stop = z }

module _ (s : Log) (f : Formed s) where
  -- entries joined to the run, and a batch
  joined_keeps : (new batch : List Change) → entries_formed new ≡ true → entries_formed batch ≡ true
      → accepted_of (numbers_of s) + length new + length batch ≤ last_index → length batch ≤ s.tail.size - 1
      → (given s.tail.sign ≡ true → length batch ≡ 0)
      → length s.run.retained + length new + length batch ≤ entry_room
      → Formed (joined new batch s)
  unfolding accepted_of end_of
  joined_keeps new batch a b i sm q r =
      let g = f.numbers in
      let l = length-append s.run.retained new in
      record {
        numbers = record {
          low = g.low;
          high = omega (arith, g.high);
          inside = omega arith;
          small = sm;
          quiet = q;
          sized = g.sized;
          room = omega arith;
        };
        entries = all_join change_formed s.run.retained new f.entries a;
        batch = b;
        snapshot = f.snapshot;
        stop = f.stop;
      }

  append_keeps : (es : List Change) → entries_formed es ≡ true → Clear (append_guards (length es) (numbers_of s))
      → Formed (appended es s)
  unfolding appended append_guards fills accepted_of end_of
  append_keeps es e clr =
      either Formed (fills es s) _ _
      (λ t. joined_keeps (batch_with es s)
      [] all nothing_formed (omega (arith, index, length-append s.tail.batched es)) (omega arith) (λ h. refl)
      (omega (arith, room, length-append s.tail.batched es)))
      (λ t. record {
        numbers = record {
          low = f.numbers.low;
          high = f.numbers.high;
          inside = omega (arith, index, length-append s.tail.batched es);
          small = omega (arith, leb-false s.tail.size (length (batch_with es s)) t);
          quiet = never;
          sized = f.numbers.sized;
          room = omega (arith, room, length-append s.tail.batched es);
        };
        entries = f.entries;
        batch = all;
        snapshot = f.snapshot;
        stop = f.stop;
      })
    where
      all : entries_formed (batch_with es s) ≡ true
      all = all_join change_formed s.tail.batched es f.batch e

      index : accepted_of (numbers_of s) + length s.tail.batched + length es ≤ last_index
      index = ltb-false last_index (accepted_of (numbers_of s) + length s.tail.batched + length es) (clr 9)

      room : length s.run.retained + length s.tail.batched + length es ≤ entry_room
      room = ltb-false entry_room (length s.run.retained + length s.tail.batched + length es) (clr 1)

      never : given s.tail.sign ≡ true → length (batch_with es s) ≡ 0
      never q = let z : ◌≡◌ {A = ℕ} 0 1 = cc (clr 4) in omega arith

  now_keeps : (es : List Change) → entries_formed es ≡ true → Clear (append_guards (length es) (numbers_of s))
      → Formed (appended_now es s)
  unfolding appended_now append_guards
  now_keeps es e clr =
      joined_keeps es s.tail.batched e f.batch
      (omega (arith, ltb-false last_index (accepted_of (numbers_of s) + length s.tail.batched + length es) (clr 9)))
      f.numbers.small
      f.numbers.quiet
      (omega (arith, ltb-false entry_room (length s.run.retained + length s.tail.batched + length es) (clr 1)))

  flush_keeps : Formed (flushed s)
  unfolding flushed
  flush_keeps =
      joined_keeps s.tail.batched [] f.batch nothing_formed (omega (arith, f.numbers.inside)) (omega arith)
      (λ h. refl) (omega (arith, f.numbers.room))

  reload_keeps : Formed (reloaded s)
  unfolding reloaded accepted_of end_of
  reload_keeps = record {
    numbers = record {
      low = f.numbers.low;
      high = f.numbers.high;
      inside = omega (arith, f.numbers.inside);
      small = omega arith;
      quiet = λ q. refl;
      sized = f.numbers.sized;
      room = omega (arith, f.numbers.room);
    };
    entries = f.entries;
    batch = nothing_formed;
    snapshot = f.snapshot;
    stop = f.stop;
  }

  set_stop_keeps : (g : Option StopSign) → if_given sign_formed g ≡ true → Clear (set_stop_guards (given g) (numbers_of s))
      → Formed (stop_set g s)
  unfolding stop_set set_stop_guards accepted_of end_of
  set_stop_keeps g w clr =
      let l = log_min (numbers_of s) f.numbers.high in
      record {
        numbers = record {
          low = f.numbers.low;
          high = omega (arith, unstopped (numbers_of s) (clr 4));
          inside = ltb-false last_index
              (end_of (numbers_of s) + (if given g then 1 else 0) + length s.tail.batched) (clr 9);
          small = f.numbers.small;
          quiet = flagged (given g) (length s.tail.batched) (clr 10);
          sized = f.numbers.sized;
          room = f.numbers.room;
        };
        entries = f.entries;
        batch = f.batch;
        snapshot = f.snapshot;
        stop = w;
      }

  -- the decided index moved, whatever the ballots
  marks_keep : (i : ℕ) (p b : Ballot) → s.run.compacted ≤ i → i ≤ accepted_of (numbers_of s)
      → Formed (with_marks (record { decided = i; promise = p; round = b }) s)
  unfolding accepted_of end_of
  marks_keep i p b l h = record {
    numbers = record {
      low = l;
      high = h;
      inside = f.numbers.inside;
      small = f.numbers.small;
      quiet = f.numbers.quiet;
      sized = f.numbers.sized;
      room = f.numbers.room;
    };
    entries = f.entries;
    batch = f.batch;
    snapshot = f.snapshot;
    stop = f.stop;
  }

  -- a snapshot that is held once the call stands has room
  held_formed : (what : Compaction) (upto : Option ℕ) → Clear (compact_guards what upto s) → passes_start upto s ≡ true
      → if_given keys_formed (held_then what upto s) ≡ true
  unfolding compact_guards folded_upto
  held_formed Trim upto clr e = refl
  held_formed Snapshot upto clr e =
      let all : List Change = folded_to (target upto (numbers_of s)) s.run in
      of_snapshot all (snapshot_folded _ s f) (ltb-false key_room (length all) (rw e at (clr 8)))

  -- the run's start moved up to a decided index
  compact_keeps : (what : Compaction) (upto : Option ℕ) → Clear (compact_guards what upto s)
      → Formed (compacted_to what upto s)
  unfolding compacted_to passes_start accepted_of end_of
  compact_keeps what upto clr =
      let to = target upto (numbers_of s) in
      let k = target_range upto (numbers_of s) in
      let m = log_min (numbers_of s) f.numbers.high in
      let l = length-drop (to - s.run.compacted) s.run.retained in
      either Formed (ltb s.run.compacted to) _ _
      (λ e.
      let h = ltb-true s.run.compacted to e in
      record {
        numbers = record {
          low = omega arith;
          high = omega (arith, f.numbers.high);
          inside = omega (arith, f.numbers.inside);
          small = f.numbers.small;
          quiet = f.numbers.quiet;
          sized = f.numbers.sized;
          room = omega (arith, f.numbers.room);
        };
        entries = all_drop change_formed (to - s.run.compacted) s.run.retained f.entries;
        batch = f.batch;
        snapshot = held_formed what upto clr e;
        stop = f.stop;
      })
      (λ e. f)

  -- the whole record of a sync with a log part: where the run starts, how long it is, and what is held before it
  part_formed_lem : (b : Ballot) (d : ℕ) (p : Part) → entries_formed (run_then p s).retained ≡ true
      → if_given keys_formed (run_then p s).held ≡ true → if_given sign_formed p.stop ≡ true
      → (run_then p s).compacted + length (run_then p s).retained ≡ p.idx + length p.suffix
      → (run_then p s).compacted ≤ max d s.marks.decided
      → length (run_then p s).retained + length s.tail.batched ≤ entry_room
      → Clear (part_guards d p s) → Formed (part_synced b d p s)
  unfolding part_synced part_number_guards part_guards accepted_of end_of
  part_formed_lem b d p fr fh fz ends low room clr = record {
    numbers = record {
      low = low;
      high = omega (
        arith,
        ltb-false (p.idx + length p.suffix + (if given p.stop then 1 else 0))
            (max d s.marks.decided) (clr 6),
      );
      inside = omega (
        arith,
        ltb-false last_index
            (p.idx + length p.suffix + (if given p.stop then 1 else 0) + length s.tail.batched) (clr 9),
      );
      small = f.numbers.small;
      quiet = flagged (given p.stop) (length s.tail.batched) (clr 10);
      sized = f.numbers.sized;
      room = room;
    };
    entries = fr;
    batch = f.batch;
    snapshot = fh;
    stop = fz;
  }

  -- by its snapshot
  part_cases : (b : Ballot) (d i : ℕ) (g : Given) (es : List Change) (z : Option StopSign)
      → part_formed (part i g es z) ≡ true
      → Clear (part_guards d (part i g es z) s) → Formed (part_synced b d (part i g es z) s)
  unfolding part_formed part_number_guards part_guards run_then end_of
  part_cases b d i plain es z w clr =
      let v : entries_formed es ≡ true = and_left (entries_formed es) (if_given sign_formed z) w in
      let low : s.run.compacted ≤ i =
      ltb-false i s.run.compacted (or_left (ltb i s.run.compacted) (ltb (end_of (numbers_of s)) i) (clr 7)) in
      let high : i ≤ end_of (numbers_of s) = ltb-false (end_of (numbers_of s)) i
      (or_right (ltb i s.run.compacted) (ltb (end_of (numbers_of s)) i) (clr 7)) in
      let long : length (take (i - s.run.compacted) s.run.retained ++ es)
      ≡ i - s.run.compacted + length es = simp (length-append, length-take) (omega arith) in
      part_formed_lem b d (part i plain es z)
      (all_join change_formed (take (i - s.run.compacted) s.run.retained) es
      (all_take change_formed (i - s.run.compacted) s.run.retained f.entries) v)
      f.snapshot
      (and_right (entries_formed es) (if_given sign_formed z) w)
      (omega arith)
      (omega (arith, f.numbers.low))
      (omega (arith, ltb-false entry_room (i - s.run.compacted + length es + length s.tail.batched) (clr 1)))
      clr
  part_cases b d i (complete c) es z w clr =
      let v = and_right (keys_formed c) (entries_formed es && if_given sign_formed z) w in
      part_formed_lem b d (part i (complete c) es z)
      (and_left (entries_formed es) (if_given sign_formed z) v)
      (and_left (keys_formed c) _ w)
      (and_right (entries_formed es) (if_given sign_formed z) v)
      refl
      (ltb-false (max d s.marks.decided) i (clr 2))
      (omega (arith, ltb-false entry_room (0 + length es + length s.tail.batched) (clr 1)))
      clr
  part_cases b d i (delta c) es z w clr =
      let v = and_right (keys_formed c) (entries_formed es && if_given sign_formed z) w in
      let base = folded_to (log_decided (numbers_of s)) s.run in
      part_formed_lem b d (part i (delta c) es z)
      (and_left (entries_formed es) (if_given sign_formed z) v)
      (of_snapshot (delta_onto c s)
      (unfold delta_onto in snapshot_merge base c (snapshot_folded (log_decided (numbers_of s)) s f)
      (snapshot_held_lem (some c) (and_left (keys_formed c) _ w)).fine)
      (ltb-false key_room (length (delta_onto c s)) (clr 8)))
      (and_right (entries_formed es) (if_given sign_formed z) v)
      refl
      (ltb-false (max d s.marks.decided) i (clr 2))
      (omega (arith, ltb-false entry_room (0 + length es + length s.tail.batched) (clr 1)))
      clr

  part_keeps : (b : Ballot) (d : ℕ) (p : Part) → part_formed p ≡ true → Clear (part_guards d p s)
      → Formed (part_synced b d p s)
  part_keeps b d p w clr = part_cases b d p.idx p.snapshot p.suffix p.stop w clr

  sync_keeps : (b : Ballot) (d : ℕ) (p : Option Part) → if_given part_formed p ≡ true → Clear (sync_guards d p s)
      → Formed (synced b d p s)
  unfolding synced sync_guards round_guards
  sync_keeps b d none w clr =
      marks_keep (max d s.marks.decided) s.marks.promise b (omega (arith, f.numbers.low))
      (ltb-false (accepted_of (numbers_of s)) (max d s.marks.decided) (clr 6))
  sync_keeps b d (some p) w clr = part_keeps b d p w clr

-- a stop-sign set where none is held, and the batch is empty
stop_keeps : (g : StopSign) (s : Log) → Formed s → sign_formed g ≡ true → Clear (append_stop_guards (numbers_of s))
    → Formed (stop_appended g s)
unfolding stop_appended flushed append_stop_guards accepted_of end_of
stop_keeps g s f w clr =
    let h = flush_keeps s f in
    let l = length-append s.run.retained s.tail.batched in
    record {
      numbers = record {
        low = f.numbers.low;
        high = omega (arith, f.numbers.high, unsigned (given s.tail.sign) (clr 4));
        inside = omega (
          arith,
          ltb-false last_index (accepted_of (numbers_of s) + length s.tail.batched + 1) (clr 9),
          unsigned (given s.tail.sign) (clr 4),
        );
        small = omega arith;
        quiet = λ q. refl;
        sized = f.numbers.sized;
        room = omega (arith, f.numbers.room);
      };
      entries = (unfold flushed in h.entries);
      batch = nothing_formed;
      snapshot = f.snapshot;
      stop = w;
    }

-- what an operation list leaves has passed the test itself
steps_keep : (n : Numbers) (l : Lent) (ops : List Op) (m : Midst) → Passed (op_guards n l ops m)
    → well_formed (steps l ops m).log ≡ true
unfolding op_guards steps
steps_keep n l [] m p =
    unfold last_guards in and_right (eqb m.start m.log.run.compacted) (well_formed m.log)
    (not-false _ p.1.0)
steps_keep n l (o ∷ ops) m p =
    steps_keep n l ops (step l o m) (passed_right (step_guards n l o m) (op_guards n l ops (step l o m)) p)

write_keeps : (l : Lent) (ops : List Op) (s : Log) → Passed (write_guards l ops s)
    → well_formed (list_written l ops s) ≡ true
unfolding write_guards list_written
write_keeps l ops s p = steps_keep (numbers_of s) l ops (midst s) p

decide_keeps : (i : ℕ) (s : Log) → Formed s → Clear (decide_guards i (numbers_of s))
    → Formed (with_marks (deciding i s.marks) s)
unfolding decide_guards
decide_keeps i s f clr =
    marks_keep s f i s.marks.promise s.marks.round
    (omega (arith, f.numbers.low, ltb-false i s.marks.decided (clr 5)))
    (ltb-false (accepted_of (numbers_of s)) i (clr 6))

-- what is known of a call that stands: its form, and its own refusals by their numbers
pub argued : (c : Call) (s : Log) → Passed (guards c s) → malformed c ≡ false
unfolding guards
argued c s p = p.1.0

pub cleared : (c : Call) (s : Log) → Passed (guards c s) → Clear (further c s)
unfolding guards
cleared c s p = clear (further c s) p.1.1

-- a call that stands leaves a well-formed state
keeps : (c : Call) (s : Log) → Formed s → Passed (guards c s) → well_formed (effect c s) ≡ true
unfolding further malformed effect
keeps (query q) s f p = of_formed s f
keeps (append es) s f p =
    of_formed _ (append_keeps s f es (not-false (entries_formed es) (argued (append es) s p)) (cleared (append es) s p))
keeps (append_now es) s f p = of_formed _ (now_keeps s f es (not-false (entries_formed es) (argued (append_now es) s p))
    (cleared (append_now es) s p))
keeps flush s f p = of_formed _ (flush_keeps s f)
keeps flush_entries s f p = of_formed _ (flush_keeps s f)
keeps (append_stop g) s f p =
    of_formed _ (stop_keeps g s f (not-false (sign_formed g) (argued (append_stop g) s p)) (cleared (append_stop g) s p))
keeps (set_stop g) s f p = of_formed _ (set_stop_keeps s f g (not-false (if_given sign_formed g) (argued (set_stop g) s p))
    (cleared (set_stop g) s p))
keeps (set_promise b) s f p =
    of_formed _ (marks_keep s f s.marks.decided b s.marks.round f.numbers.low f.numbers.high)
keeps (decide i) s f p = of_formed _ (decide_keeps i s f (cleared (decide i) s p))
keeps (compact what upto) s f p = of_formed _ (compact_keeps s f what upto (cleared (compact what upto) s p))
keeps (sync b d q) s f p = of_formed _ (sync_keeps s f b d q
    (not-false (if_given part_formed q) (argued (sync b d q) s p)) (cleared (sync b d q) s p))
keeps reload s f p = of_formed _ (reload_keeps s f)
keeps (write l ops) s f p = write_keeps l ops s (unfold guards in p.1.1)

-- and so does every call, refused or not, operation lists among them
pub call_keeps : (c : Call) (s : Log) → well_formed s ≡ true → well_formed (state_after c s) ≡ true
unfolding state_after
call_keeps c s w = go (first (guards c s)) refl
  where
    go : (v : Verdict) → first (guards c s) ≡ v → well_formed (after v (effect c s) s) ≡ true
    go passes q = keeps c s (formed_of s w) (passed (guards c s) q)
    go (refuses n k) q = w

pub fresh_formed : (n : ℕ) → n ≤ largest_batch → well_formed (fresh_log n) ≡ true
fresh_formed n h = of_formed (fresh_log n) (facts n h)
  where
    facts : (n : ℕ) → n ≤ largest_batch → Formed (fresh_log n)
    facts n h =
        unfold fresh_log accepted_of end_of all_of in
        record {
          numbers = record {
            low = omega arith;
            high = omega arith;
            inside = omega arith;
            small = omega arith;
            quiet = λ q. refl;
            sized = h;
            room = omega arith;
          };
          entries = refl;
          batch = refl;
          snapshot = refl;
          stop = refl;
        }
