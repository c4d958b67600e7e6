-- Module 5, and the reads of module 4.
use Rattle.std.specs.Prelude.{ℕ, ◌+◌, ◌-◌, min, max, Bool, false, ◌&&◌, ◌||◌, List, [], ltb, leb, eqb, take, drop, if◌then◌else◌}
use Rattle.std.proofs.Math.Option.{Option, none, some}
use Rattle.entry.specs.Limits.{last_word}
use Rattle.entry.specs.Change.{Change}
use Rattle.entry.specs.declared.StopSign.{StopSign}
use Rattle.model.specs.Numbers.{end_of, accepted_of, stop_decided}
use Rattle.model.specs.Log.{Run, Log, numbers_of}

pub data Bound : Type 0 where
  included excluded : ℕ → Bound
  unbounded : Bound

-- "a range bound that adds 1 to 2^64-1": an excluded start, an included end
abbrev pub start_past : Bound → Bool
start_past (included i) = false
start_past (excluded i) = eqb i last_word
start_past unbounded = false

abbrev pub stop_past : Bound → Bool
stop_past (included i) = eqb i last_word
stop_past (excluded i) = false
stop_past unbounded = false

abbrev pub start_at : Bound → ℕ
start_at (included i) = i
start_at (excluded i) = i + 1
start_at unbounded = 0

abbrev pub stop_at : Bound → ℕ → ℕ
stop_at (included i) last = i + 1
stop_at (excluded i) last = i
stop_at unbounded last = last

-- "The marker is a snapshot if one is held, else trimmed"
pub data Marker : Type 0 where
  trimmed : ℕ → Marker
  snapshotted : ℕ → List Change → Marker

unfoldable pub marker_of : Run → Marker
marker_of r = elim r.held [ none ↦ trimmed r.compacted | some h ↦ snapshotted r.compacted h ]

-- "shown as a part of the lent log itself": entries that follow each other, and how many of those retained stand before
pub record Span : Type 0 where
  pub first : ℕ
  pub entries : List Change

abbrev pub span : ℕ → List Change → Span
span i es = record { first = i; entries = es }

abbrev pub no_span : Span
no_span = span 0 []

-- a marker, entries of which the first so many are decided, and a stop-sign, decided or not
pub record Shown : Type 0 where
  pub marker : Option Marker
  pub part : Span
  pub decided : ℕ
  pub stop : Option StopSign
  pub stop_decided : Bool

abbrev pub shown : Option Marker → Span → ℕ → Option StopSign → Bool → Shown
shown m p n g t = record { marker = m; part = p; decided = n; stop = g; stop_decided = t }

abbrev pub empty_run : Shown
empty_run = shown none no_span 0 none false

-- the entries from an index up to another, of those that the run holds
abbrev pub between : ℕ → ℕ → Run → List Change
between from to r = take (to - from) (drop (from - r.compacted) r.retained)

abbrev pub span_between : ℕ → ℕ → Run → Span
span_between from to r = span (from - r.compacted) (between from to r)

-- "a marker if from < compacted, the retained entries of the range, each decided exactly if its index is below decided,
-- then the stop-sign if to = accepted and one is held"
unfoldable pub full_run : ℕ → ℕ → Log → Shown
full_run from to s =
    let first : ℕ = max from s.run.compacted in
    let last : ℕ = min to (end_of (numbers_of s)) in
    shown
    (if ltb from s.run.compacted then some (marker_of s.run) else none)
    (span_between first last s.run)
    (min last s.marks.decided - first)
    (if eqb to (accepted_of (numbers_of s)) then s.tail.sign else none)
    (eqb to (accepted_of (numbers_of s)) && stop_decided (numbers_of s))

-- "to = 0, nothing. 0 < to ≤ compacted: one marker, from not looked at. to > accepted or from ≥ accepted: nothing.
-- from ≥ to otherwise: an empty run"
unfoldable pub read_from : ℕ → ℕ → Log → Option Shown
read_from from to s =
    if eqb to 0 then none
    else if leb to s.run.compacted then some (shown (some (marker_of s.run)) no_span 0 none false)
    else if ltb (accepted_of (numbers_of s)) to || leb (accepted_of (numbers_of s)) from then none
    else if leb to from then some empty_run
    else some (full_run from to s)

unfoldable pub read_reply : Bound → Bound → Log → Option Shown
read_reply a b s = read_from (start_at a) (stop_at b (accepted_of (numbers_of s))) s

unfoldable pub decided_suffix : ℕ → Log → Option Shown
decided_suffix from s = if ltb from s.marks.decided then read_from from s.marks.decided s else none

-- "get_entries gives an empty run if the interval isn't wholly held"
unfoldable pub entries_between : ℕ → ℕ → Log → Span
entries_between from to s =
    if leb s.run.compacted from && (leb from to && leb to (end_of (numbers_of s)))
    then span_between from to s.run
    else no_span

unfoldable pub suffix_from : ℕ → Log → Span
suffix_from from s = entries_between from (end_of (numbers_of s)) s
