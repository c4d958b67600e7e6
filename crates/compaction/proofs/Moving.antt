-- A compaction of a lent state: refusal 2, where it ends, what is then held, and the run's start moved up there, the
-- model's `compacted_to`.
use Rattle.words.proofs.Prelude.{arith, ◌≡◌, refl, sym, ap, ◌∙◌, ℕ, ◌+◌, ◌-◌, ◌≤◌, Bool, true, false, lt-ltb, le-ltb}
use Rattle.words.proofs.Prelude.{if◌then◌else◌, Option, List, [], ◌∷◌, ◌++◌, length-drop, length}
use Rattle.std.specs.Prelude.{Result, Ok, Err}
use Rattle.words.specs.Coded.{words_of}
use Rattle.words.proofs.CodedLaws.{spliced_trim}
use Rattle.entry.specs.{Limits.log_words, Limits.snapshot_words, Change.Change, Change.stored, Guards.Guard}
use Rattle.entry.specs.{Guards.passes, Guards.refuses, Guards.first, Guards.replied, Guards.refused_by}
use Rattle.entry.specs.{Refusals.number_of, Refusals.carried_of, declared.Refusal.Refusal}
use Rattle.entry.specs.{declared.Compaction.Compaction, declared.Compaction.TheVariants.Trim}
use Rattle.entry.specs.{declared.Compaction.TheVariants.Snapshot}
use Rattle.entry.proofs.GuardLaws.{first_left, first_right}
use Rattle.snapshot.specs.Calls.{outcome as snapshot_outcome, folded}
use Rattle.snapshot.proofs.Calling.{wrote_nothing, wrote_keys}
use Rattle.model.specs.Numbers.{Numbers, end_of}
use Rattle.model.specs.Log.{Log, numbers_of, given, or_empty, folded_to}
use Rattle.model.specs.Compact.{target, above_decided, passes_start, folded_upto, onto_guards, snapshots_only}
use Rattle.model.specs.Compact.{compact_guards, held_then, compacted_to}
use Rattle.model.specs.Calls.{Call, compact, malformed, further, effect, reply_of}
use Rattle.model.proofs.{Forms.ranges, Keeps.target_range}
use Rattle.state_cache.specs.{State.Raw, State.raw, State.numbers_in, State.formed, State.log_of, Run.outcome, Run.run}
use Rattle.state_cache.specs.declared.IndexRecord.{IndexRecord}
use Rattle.state_cache.proofs.{Stands.Stands, Stands.stands_of, Stands.log_formed, Stands.ready_of, Runs.call_refused}
use Rattle.state_cache.proofs.{Runs.call_stands, Changes.log_spliced}
use Rattle.compaction.proofs.Folding.{numbers}
use Rattle.compaction.specs.Inner.{past_verdict, Stay, Up, Movable, Moved, held_at, holds_then, held_written}

-- what is decided is held or compacted
pub target_in : (r : Raw) → formed r ≡ true → (upto : Option ℕ)
    → target upto (numbers_in r.index) ≤ r.index.compacted.0 + r.index.retained
target_in r ok upto =
    let f = (ready_of r ok).numbers in
    unfold end_of in omega (arith, target_range upto (numbers_in r.index), (ranges (numbers_in r.index) f).high)

module _ (r : Raw) (ok : formed r ≡ true) (what : Compaction) (upto : Option ℕ) where
  abbrev s : Log
  s = log_of r

  abbrev c : Call
  c = compact what upto

  st : Stands s r
  st = stands_of r ok

  target_is : target upto (numbers_of s) ≡ target upto (numbers_in r.index)
  target_is = ap (target upto) (numbers r ok)

  -- refusals 16 and 8, by whether it passes compacted, and what is folded
  abbrev due : Bool → List Change → List Guard
  due t es = snapshots_only what (onto_guards t s (if t then es else []))

  -- refusal 2 stands first
  guards_are : first (further c s)
      ≡ first ((above_decided upto (numbers_in r.index) ∷ []) ++ due (passes_start upto s) (folded_upto upto s))
  unfolding further compact_guards
  guards_are =
      ap (λ (n : Numbers). first (above_decided upto n ∷ due (passes_start upto s) (folded_upto upto s))) (numbers r ok)

  past_stops : (n k : ℕ) → refuses n k ≡ past_verdict upto r.index → refuses n k ≡ first (further c s)
  past_stops n k e = first_left (above_decided upto (numbers_in r.index) ∷ []) _ n k e ∙ sym guards_are

  goes_on : passes ≡ past_verdict upto r.index → (t : Bool) → passes_start upto s ≡ t
      → first (further c s) ≡ first (due t (folded_upto upto s))
  goes_on v t e =
      guards_are ∙ first_right (above_decided upto (numbers_in r.index) ∷ []) _ v
      ∙ ap (λ (b : Bool). first (due b (folded_upto upto s))) e

  stands : passes ≡ first (further c s) → (x : Raw) → Stands (compacted_to what upto s) x
      → outcome (replied tt) x ≡ run c true r
  unfolding malformed effect reply_of
  stands v x p = call_stands c r ok refl v tt x refl p

  -- one that does not pass compacted changes nothing
  module _ (low : target upto (numbers_in r.index) ≤ r.index.compacted.0) where
    not_past : passes_start upto s ≡ false
    unfolding passes_start
    not_past = le-ltb s.run.compacted (target upto (numbers_of s)) (omega (arith, st.run.start, target_is, low))

    unmoved : Stands (compacted_to what upto s) r
    unfolding compacted_to
    unmoved = rw not_past st

  nothing_due : (w : Compaction) → passes ≡ first (snapshots_only w (onto_guards false s []))
  unfolding first
  nothing_due Trim = refl
  nothing_due Snapshot = refl

  pub compact_above : (x : Refusal) → refuses (number_of x) (carried_of x) ≡ past_verdict upto r.index
      → outcome (refused_by x) r ≡ run c true r
  unfolding malformed
  compact_above x e = call_refused c r ok refl (number_of x) (carried_of x) (past_stops (number_of x) (carried_of x) e)

  pub compact_stays : Stay upto r.index → outcome (replied tt) r ≡ run c true r
  compact_stays p =
      stands (nothing_due what ∙ sym (goes_on p.verdict false (not_past p.low))) r (unmoved p.low)

  module _ (to : ℕ) (u : Up upto r.index to) where
    in_run : to ≤ r.index.compacted.0 + r.index.retained
    in_run = omega (arith, u.is, target_in r ok upto)

    pub movable : Movable to r.index r.log
    movable = record { up = omega (arith, u.up); within = in_run; laid_out = (ready_of r ok).log }

    ends_at : target upto (numbers_of s) ≡ to
    ends_at = target_is ∙ sym u.is

    is_past : passes_start upto s ≡ true
    unfolding passes_start
    is_past = lt-ltb s.run.compacted (target upto (numbers_of s)) (omega (arith, st.run.start, ends_at, u.up))

    gone_le : to - s.run.compacted ≤ length s.run.retained
    gone_le = omega (arith, st.run.start, st.run.count, in_run)

    folds_to : folded_upto upto s ≡ folded_to to s.run
    unfolding folded_upto
    folds_to = ap (λ (j : ℕ). folded_to j s.run) ends_at

    -- the snapshot then held, in the words that hold it
    held_is : (w : Compaction)
        → (given (held_then w upto s) ≡ holds_then w) × (or_empty (held_then w upto s) ≡ held_at w to s)
    held_is Trim = (refl, refl)
    held_is Snapshot = (refl, folds_to)

    moved_stands : (y : IndexRecord) (words : List ℕ)
        → Moved to (holds_then what) (length (held_at what to s)) r.index r.log y words
        → Stands (compacted_to what upto s) (raw y words (stored snapshot_words (held_at what to s)))
    unfolding compacted_to
    moved_stands y words m = rw (is_past, ends_at, m.index) (record {
      run = record {
        start = refl;
        count = omega (arith, length-drop (to - s.run.compacted) s.run.retained, st.run.count, st.run.start);
        snapshot = (held_is what).0;
        snapshot_keys = ap length (held_is what).1;
      };
      tail = st.tail;
      marks = st.marks;
      log =
          ap (stored log_words)
          (sym (spliced_trim (to - s.run.compacted) s.run.retained s.tail.batched gone_le))
          ∙ rw st.run.start (sym (m.words
          ∙ log_spliced s r st (log_formed r ok) 0 (to - r.index.compacted.0) [] [] (unfold words_of in refl)));
      snapshot = ap (stored snapshot_words) (held_is what).1;
    })

    -- what is written in the snapshot's place, or refused
    module _ (a : Result ℕ Refusal) (exit : List ℕ)
        (f : snapshot_outcome (folded a) exit ≡ held_written what to r) where
      verdict : first (further c s) ≡ first (due true (folded_to to s.run))
      verdict =
          goes_on u.verdict true is_past ∙ ap (λ (es : List Change). first (due true es)) folds_to

      pub compact_over : (x : Refusal) → a ≡ Err x
          → outcome (refused_by x) (raw r.index r.log exit) ≡ run c true r
      unfolding malformed
      compact_over x p =
          let q = wrote_nothing (first (due true (folded_to to s.run))) (held_at what to s) r.snapshot exit a f x p in
          ap (λ (ws : List ℕ). outcome (refused_by x) (raw r.index r.log ws)) q.1
          ∙ call_refused c r ok refl (number_of x) (carried_of x) (sym (verdict ∙ q.0))

      pub compact_moves : (k : ℕ) → a ≡ Ok k → (held : Bool) → held ≡ holds_then what
          → (y : IndexRecord) (words : List ℕ) → Moved to held k r.index r.log y words
          → outcome (replied tt) (raw y words exit) ≡ run c true r
      compact_moves k p held h y words m =
          let q = wrote_keys (first (due true (folded_to to s.run))) (held_at what to s) r.snapshot exit a f k p in
          ap (λ (ws : List ℕ). outcome (replied tt) (raw y words ws)) q.2
          ∙ stands (sym (verdict ∙ q.0)) _ (moved_stands y words (rw (h, q.1) at m))
