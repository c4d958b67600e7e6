-- The reply by numbers: its cases as the code takes them, that it says what the model's read shows, and that the part
-- that it names lies in the lent log.
use Rattle.words.proofs.Prelude.{arith, ◌≡◌, refl, sym, ap, ap₂, ◌∙◌, ℕ, ◌+◌, ◌-◌, ◌≤◌, ◌<◌, min, max, Bool, true}
use Rattle.words.proofs.Prelude.{false, ◌&&◌, ◌||◌, eqb, ltb, leb, eq-eqb, ne_eqb, lt-ltb, le-ltb, ltb-true, ltb-false}
use Rattle.words.proofs.Prelude.{le-leb, lt-leb, leb-false, if◌then◌else◌, Option, none, some, List, length, take, drop}
use mathlib.Core.Path.{subst}
use Rattle.std.specs.Prelude.{Option as Optional, Some, None, Result, Ok, Err}
use Rattle.words.specs.Coded.{entries_at}
use Rattle.words.proofs.Tests.{or_left, or_right, either}
use Rattle.entry.specs.{Change.entries_of, Change.entries_in, Guards.Answer, Guards.refused, Guards.replied}
use Rattle.entry.specs.{declared.LogIndex.LogIndex, declared.StopSign.StopSign, declared.Refusal.Refusal}
use Rattle.entry.specs.{declared.Refusal.TheVariants.Malformed}
use Rattle.model.specs.Numbers.{Numbers, end_of, accepted_of, stop_decided}
use Rattle.model.specs.Read.{Bound, start_at, stop_at, start_past, stop_past, Marker, trimmed, snapshotted, marker_of, Span}
use Rattle.model.specs.Read.{span, Shown, shown, full_run, read_from, read_reply, decided_suffix}
use Rattle.model.specs.Calls.{query, read, read_decided, get_entries, get_suffix, query_reply, query_guards}
use Rattle.state_cache.specs.{State.Raw, State.numbers_in, State.log_of, Inner.Ready, Run.run}
use Rattle.state_cache.specs.{declared.IndexRecord.IndexRecord}
use Rattle.state_cache.proofs.{Small.accepted_le, Small.end_le, Stands.ready_of}
use Rattle.reading.specs.{Parts.part, Replies.lent_span, Replies.span_is, Replies.marker_said, Replies.shown_said}
use Rattle.reading.specs.{Replies.run_is, Inner.EntryIs, Inner.span_in, Inner.marker_in, Inner.marker_at}
use Rattle.reading.specs.{Inner.run_of_none, Inner.run_of, Inner.read_in, declared.Span.Span as CodeSpan}
use Rattle.reading.specs.{declared.ShownRun.ShownRun}
use Rattle.reading.specs.{declared.Marker.TheVariants.Trimmed, declared.Marker.TheVariants.Snapshot}
use Rattle.reading.specs.{declared.inner.IndexEntry.IndexEntry, declared.inner.IndexEntry.TheVariants.Compacted}
use Rattle.reading.specs.{declared.inner.IndexEntry.TheVariants.Entry}
use Rattle.reading.specs.{declared.inner.IndexEntry.TheVariants.StopSign as StopEntry}
use Rattle.reading.proofs.Answers.{answer_is, answered}
use Rattle.reading.proofs.Showing.{both_by, part_entries, lent_count, shown_is, held, room, numbers}
use Rattle.reading.proofs.Showing.{entries_answer, suffix_answer as end-answer}

-- ---- the cases as the code takes them

-- the marker by the kind of the first index
pub marker_at_lem : (x : IndexRecord) (from : ℕ) (e : IndexEntry) → EntryIs (numbers_in x) from e
    → marker_at e x ≡ (if ltb from x.compacted.0 then Some (marker_in x) else None)
unfolding end_of
marker_at_lem x from Compacted h = sym (rw (lt-ltb from x.compacted.0 h))
marker_at_lem x from Entry h = sym (rw (le-ltb from x.compacted.0 h.0))
marker_at_lem x from StopEntry h = sym (rw (le-ltb from x.compacted.0 (omega arith)))

pub held_below : (n : Numbers) (i : ℕ) (e : IndexEntry) → EntryIs n i e → i < accepted_of n
unfolding end_of
held_below n i Compacted h = omega (arith, end_le n)
held_below n i Entry h = omega (arith, end_le n)
held_below n i StopEntry h = h.1

module _ (x : IndexRecord) (from to : ℕ) where
  abbrev n : Numbers
  n = numbers_in x

  pub case_zero : to ≡ 0 → None ≡ read_in from to x
  unfolding read_in
  case_zero h = sym (rw (eq-eqb to 0 h))

  module _ (z : to ≡ 0 → ⊥) where
    pub case_marker : to - 1 < x.compacted.0 → Some (run_of_none (Some (marker_in x))) ≡ read_in from to x
    unfolding read_in
    case_marker h = sym (rw (ne_eqb to 0 z, le-leb to x.compacted.0 (omega arith)))

    pub case_past : accepted_of n ≤ to - 1 → None ≡ read_in from to x
    unfolding read_in end_of
    case_past h = sym (rw
        (ne_eqb to 0 z, lt-leb to x.compacted.0 (omega (arith, end_le n)), lt-ltb (accepted_of n) to (omega arith)))

  module _ (h₁ : x.compacted.0 < to) (h₂ : to ≤ accepted_of n) where
    pub case_nothing : accepted_of n ≤ from → None ≡ read_in from to x
    unfolding read_in
    case_nothing h =
        sym (rw (
          ne_eqb to 0 (omega arith),
          lt-leb to x.compacted.0 h₁,
          le-ltb (accepted_of n) to h₂,
          le-leb (accepted_of n) from h,
        ))

    pub case_run : from < accepted_of n → (t : Bool) → leb to from ≡ t
        → (if t then Some (run_of_none None) else Some (run_of from to x)) ≡ read_in from to x
    unfolding read_in
    case_run h t e =
        sym (rw (
          ne_eqb to 0 (omega arith),
          lt-leb to x.compacted.0 h₁,
          le-ltb (accepted_of n) to h₂,
          lt-leb (accepted_of n) from h,
          e,
        ))

-- ---- the ends of a range, as the code tells them
module _ (past : Bool) (v : ℕ) where
  abbrev end_is : Result ℕ Refusal
  end_is = if past then Err Malformed else Ok v

  pub end_given : (i : ℕ) → Ok i ≡ end_is → (past ≡ false) × (i ≡ v)
  end_given i e = go past refl
    where
      go : (t : Bool) → past ≡ t → (past ≡ false) × (i ≡ v)
      go true p = let z : ◌≡◌ {A = Result ℕ Refusal} (Ok i) (Err Malformed) = e ∙ rw p in cc
      go false p = let z : ◌≡◌ {A = Result ℕ Refusal} (Ok i) (Ok v) = e ∙ rw p in (p, cc)

  pub end_refused : (f : Refusal) → Err f ≡ end_is → (past ≡ true) × (f ≡ Malformed)
  end_refused f e = go past refl
    where
      go : (t : Bool) → past ≡ t → (past ≡ true) × (f ≡ Malformed)
      go true p = let z : ◌≡◌ {A = Result ℕ Refusal} (Err f) (Err Malformed) = e ∙ rw p in (p, cc)
      go false p = let z : ◌≡◌ {A = Result ℕ Refusal} (Err f) (Ok v) = e ∙ rw p in cc

-- ---- what the reply says

marker_by : (b : Bool) (i : LogIndex) (k : ℕ) (ws : List ℕ)
    → marker_said ws (Some (if b then Snapshot i k else Trimmed i))
    ≡ some (elim (if b then some (entries_of k ws) else none) [ none ↦ trimmed i.0 | some h ↦ snapshotted i.0 h ])
marker_by true i k ws = refl
marker_by false i k ws = refl

stop_by : (a b : Bool) (g : StopSign)
    → ◌≡◌ {A = Option StopSign} (if a && b then some g else none) (if a then (if b then some g else none) else none)
stop_by true b g = refl
stop_by false b g = refl

shown_eq : {a a' : Option Marker} {b b' : Span} {c c' : ℕ} {d d' : Option StopSign} (e : Bool) → a ≡ a' → b ≡ b'
    → c ≡ c' → d ≡ d' → shown a b c d e ≡ shown a' b' c' d' e
shown_eq e p q u v = rw (p, q, u, v)

-- numbers counted from the compacted index, and from 0
from_low : (to low n : ℕ) → low ≤ to → low + min (to - low) n ≡ min to (low + n)
from_low to low n h = omega arith

from_low' : (d low m : ℕ) → low ≤ d → low + min m (d - low) ≡ min (low + m) d
from_low' d low m h = omega arith

offset : (from low m : ℕ) → m - (from - low) ≡ low + m - max from low
offset from low m = omega arith

past : (from low : ℕ) → from - low ≡ max from low - low
past from low = omega arith

fits : (from low m n : ℕ) → from ≤ low + n → m ≤ n → from - low + (m - (from - low)) ≤ n
fits from low m n h k = omega arith

-- a part of the lent log whose words are its entries
abbrev Lent : List ℕ → Span → Type 0
Lent log p = entries_in (part p.first (length p.entries) log) ≡ p.entries

abbrev pub SpanLent : List ℕ → Answer Span → Type 0
SpanLent log (refused n k) = Unit {0}
SpanLent log (replied p) = Lent log p

abbrev pub ShownLent : List ℕ → Answer (Option Shown) → Type 0
ShownLent log (refused n k) = Unit {0}
ShownLent log (replied none) = Unit {0}
ShownLent log (replied (some v)) = Lent log v.part

module _ (r : Raw) (g : Ready r) where
  abbrev x : IndexRecord
  x = r.index

  abbrev low : ℕ
  low = x.compacted.0

  marker_said_lem : marker_said r.snapshot (Some (marker_in x)) ≡ some (marker_of (log_of r).run)
  unfolding marker_of log_of
  marker_said_lem = marker_by x.snapshot_held x.compacted x.keys r.snapshot

  marker_if : (t : Bool) → marker_said r.snapshot (if t then Some (marker_in x) else None)
      ≡ (if t then some (marker_of (log_of r).run) else none)
  marker_if true = marker_said_lem
  marker_if false = refl

  full_said : (from to : ℕ) → low < to → to ≤ accepted_of (numbers_in x) → from < to
      → shown_said r (run_of from to x) ≡ full_run from to (log_of r)
  unfolding full_run log_of end_of
  full_said from to h₁ h₂ h =
      rw (ap end_of (numbers r g), ap accepted_of (numbers r g), ap stop_decided (numbers r g)) (
      let a = accepted_le (numbers_in x) in
      let n : ℕ = x.retained in
      let m : ℕ = min (to - low) n in
      let last : low + m ≡ min to (low + n) = from_low to low n (omega arith) in
      shown_eq (eqb to (accepted_of (numbers_in x)) && stop_decided (numbers_in x)) (marker_if (ltb from low))
      (ap (span (from - low)) (shown_is n (from - low) (m - (from - low)) r.log
      (fits from low m n (omega arith) (omega arith)))
      ∙ ap₂ (λ (i j : ℕ). span j (take i (drop j (entries_of n r.log))))
      (offset from low m ∙ ap (λ (k : ℕ). k - max from low) last) (past from low))
      (offset from low (min m (x.decided.0 - low))
      ∙ ap (λ (k : ℕ). k - max from low)
      (from_low' x.decided.0 low m g.numbers.low ∙ ap (λ (k : ℕ). min k x.decided.0) last))
      (stop_by (eqb to (accepted_of (numbers_in x))) x.stop_held x.stop))

  run_said_lem : (from to : ℕ) → run_is r (read_in from to x) ≡ read_from from to (log_of r)
  unfolding read_in read_from log_of entries_at
  run_said_lem from to =
      rw (ap accepted_of (numbers r g)) (
      both_by (run_is r) it (eqb to 0) _ _ _ _ (λ _. refl) (λ _.
      both_by (run_is r) it (leb to low)
      _ _ _ _ (λ _. ap some (shown_eq false marker_said_lem refl refl refl)) (λ e₁.
      both_by (run_is r) it (ltb (accepted_of (numbers_in x)) to
      || leb (accepted_of (numbers_in x)) from) _ _ _ _ (λ _. refl) (λ e₂.
      both_by (run_is r) it (leb to from) _ _ _ _ (λ _. refl) (λ e₃.
      ap some
      (full_said from to (leb-false to low e₁) (ltb-false (accepted_of (numbers_in x)) to
      (or_left _ (leb (accepted_of (numbers_in x)) from) e₂)) (leb-false to from e₃)))))))
    where
      it : Option Shown → Option Shown
      it s = s

  pub read_answer : (a b : Bound) (from to last : ℕ) → start_past a || stop_past b ≡ false → from ≡ start_at a
      → to ≡ stop_at b last → last ≡ accepted_of (numbers_in x)
      → replied (run_is r (read_in from to x)) ≡ (run (query (read a b)) true r).answer
  unfolding query_reply query_guards read_reply
  read_answer a b from to last m p q e =
      ap replied (run_said_lem from to)
      ∙ ap₂ (λ (i j : ℕ). replied (read_from i j (log_of r))) p (q
      ∙ ap (stop_at b) (e ∙ ap accepted_of (sym (numbers r g))))
      ∙ answer_is (read a b) r g.okay m refl (read_reply a b (log_of r)) refl

  module _ (from : ℕ) where
    pub suffix_answer : from < x.decided.0
        → replied (run_is r (read_in from x.decided.0 x)) ≡ (run (query (read_decided from)) true r).answer
    unfolding query_reply query_guards decided_suffix log_of
    suffix_answer h =
        ap replied (run_said_lem from x.decided.0)
        ∙ ap replied (sym (rw (lt-ltb from x.decided.0 h)))
        ∙ answer_is (read_decided from) r g.okay refl refl (decided_suffix from (log_of r)) refl

    pub suffix_none : x.decided.0 ≤ from → replied none ≡ (run (query (read_decided from)) true r).answer
    unfolding query_reply query_guards decided_suffix log_of
    suffix_none h = ap replied (sym (rw (le-ltb from x.decided.0 h)))
        ∙ answer_is (read_decided from) r g.okay refl refl (decided_suffix from (log_of r)) refl

  -- entries among those retained lie in the log
  inside : (first count : ℕ) → first + count ≤ x.retained → Lent r.log (lent_span r.log first count)
  inside first count h =
      ap (λ (k : ℕ). entries_in (part first k r.log)) (lent_count r.log first count)
      ∙ part_entries first count r.log (omega (arith, room r g))

  in_span : (from to : ℕ) → Lent r.log (span_is r.log (span_in from to (numbers_in x)))
  unfolding span_in end_of
  in_span from to =
      either (λ (s : CodeSpan). Lent r.log (span_is r.log s))
      (leb low from && (leb from to && leb to (end_of (numbers_in x)))) _ _
      (λ e. let h = held low from to (end_of (numbers_in x)) e in
      inside (from - low) (to - from) (omega (arith, h.0, h.1.0, h.1.1))) (λ _. inside 0 0 (omega arith))

  abbrev Said : Optional ShownRun → Type 0
  Said s = ShownLent r.log (replied (run_is r s))

  in_run : (from to : ℕ) → from ≤ low + x.retained → Said (Some (run_of from to x))
  in_run from to h =
      let m : ℕ = min (to - low) x.retained in
      inside (from - low) (m - (from - low)) (fits from low m x.retained h (omega arith))

  in_read : (from to : ℕ) → Said (read_in from to x)
  unfolding read_in end_of
  in_read from to =
      let n = numbers_in x in
      either Said (eqb to 0) _ _ (λ _. tt) (λ _.
      either Said (leb to low) _ _ (λ _. inside 0 0 (omega arith)) (λ _.
      either Said (ltb (accepted_of n) to || leb (accepted_of n) from) _ _ (λ _. tt) (λ e.
      either Said (leb to from) _ _ (λ _. inside 0 0 (omega arith)) (λ _.
      in_run from to
      (omega (arith, leb-false (accepted_of n) from (or_right (ltb (accepted_of n) to) _ e), accepted_le n))))))

-- ---- the words of the part that an answer names are the entries that it shows

module _ (r : Raw) where
  pub read_lent : (a b : Bound) → ShownLent r.log (run (query (read a b)) true r).answer
  read_lent a b = answered (read a b) r (ShownLent r.log) (λ _ _. tt) (λ ok m.
      let last = accepted_of (numbers_in r.index) in
      let g = ready_of r ok in
      subst (ShownLent r.log) (read_answer r g a b (start_at a) (stop_at b last) last m refl refl refl)
      (in_read r g (start_at a) (stop_at b last)))

  pub decided_lent : (from : ℕ) → ShownLent r.log (run (query (read_decided from)) true r).answer
  decided_lent from = answered (read_decided from) r (ShownLent r.log) (λ _ _. tt)
      (λ ok _. go (ready_of r ok) (ltb from decided) refl)
    where
      decided : ℕ
      decided = r.index.decided.0

      go : Ready r → (t : Bool) → ltb from decided ≡ t
          → ShownLent r.log (run (query (read_decided from)) true r).answer
      go g true e = subst (ShownLent r.log) (suffix_answer r g from (ltb-true from decided e))
          (in_read r g from decided)
      go g false e = subst (ShownLent r.log) (suffix_none r g from (ltb-false from decided e)) tt

  pub entries_lent : (from to : ℕ) → SpanLent r.log (run (query (get_entries from to)) true r).answer
  entries_lent from to = answered (get_entries from to) r (SpanLent r.log) (λ _ _. tt) (λ ok _.
      subst (SpanLent r.log) (entries_answer r (ready_of r ok) from to) (in_span r (ready_of r ok) from to))

  pub suffix_lent : (from : ℕ) → SpanLent r.log (run (query (get_suffix from)) true r).answer
  suffix_lent from = answered (get_suffix from) r (SpanLent r.log) (λ _ _. tt) (λ ok _.
      let last = end_of (numbers_in r.index) in
      subst (SpanLent r.log) (end-answer r (ready_of r ok) from last refl) (in_span r (ready_of r ok) from last))
