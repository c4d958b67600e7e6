-- What the inner functions reply, by a record's numbers: what stands at an index, and the rule of module 5's read. That
-- what they say is what the model shows is proved.
use Rattle.std.specs.Prelude.{ℕ, ◌-◌, ◌≤◌, ◌<◌, min, false, ◌&&◌, ◌||◌, ltb, leb, eqb, if◌then◌else◌, Option, Some, None}
use Rattle.model.specs.Numbers.{Numbers, end_of, accepted_of, stop_decided}
use Rattle.state_cache.specs.State.{numbers_in}
use Rattle.state_cache.specs.declared.IndexRecord.{IndexRecord}
use Rattle.reading.specs.declared.Span.{Span}
use Rattle.reading.specs.declared.Marker.{Marker}
use Rattle.reading.specs.declared.Marker.TheVariants.{Trimmed, Snapshot}
use Rattle.reading.specs.declared.ShownRun.{ShownRun}
use Rattle.reading.specs.declared.inner.IndexEntry.{IndexEntry}
use Rattle.reading.specs.declared.inner.IndexEntry.TheVariants.{Compacted, Entry, StopSign}

-- "Without a stop-sign the last index is an ordinary entry"
abbrev pub EntryIs : Numbers → ℕ → IndexEntry → Type 0
EntryIs n i Compacted = i < n.compacted
EntryIs n i Entry = (n.compacted ≤ i) × (i < end_of n)
EntryIs n i StopSign = (end_of n ≤ i) × (i < accepted_of n)

abbrev pub KindIs : Numbers → ℕ → Option IndexEntry → Type 0
KindIs n i None = accepted_of n ≤ i
KindIs n i (Some e) = EntryIs n i e

-- "an empty run if the interval isn't wholly held"
unfoldable pub span_in : ℕ → ℕ → Numbers → Span
span_in from to n =
    if leb n.compacted from && (leb from to && leb to (end_of n))
    then record { first = from - n.compacted; count = to - from }
    else record { first = 0; count = 0 }

-- "The marker is a snapshot if one is held, else trimmed"
abbrev pub marker_in : IndexRecord → Marker
marker_in x = if x.snapshot_held then Snapshot x.compacted x.keys else Trimmed x.compacted

abbrev pub marker_at : IndexEntry → IndexRecord → Option Marker
marker_at Compacted x = Some (marker_in x)
marker_at Entry x = None
marker_at StopSign x = None

abbrev pub run_of_none : Option Marker → ShownRun
run_of_none m = record { marker = m; first = 0; count = 0; decided = 0; stop = false; stop_decided = false }

-- the part of the retained entries, and how many of them are below decided
abbrev pub run_of : ℕ → ℕ → IndexRecord → ShownRun
run_of from to x =
    let low : ℕ = x.compacted.0 in
    let last : ℕ = min (to - low) x.retained in
    record {
      marker = if ltb from low then Some (marker_in x) else None;
      first = from - low;
      count = last - (from - low);
      decided = min last (x.decided.0 - low) - (from - low);
      stop = eqb to (accepted_of (numbers_in x)) && x.stop_held;
      stop_decided = eqb to (accepted_of (numbers_in x)) && stop_decided (numbers_in x);
    }

unfoldable pub read_in : ℕ → ℕ → IndexRecord → Option ShownRun
read_in from to x =
    if eqb to 0 then None
    else if leb to x.compacted.0 then Some (run_of_none (Some (marker_in x)))
    else if ltb (accepted_of (numbers_in x)) to || leb (accepted_of (numbers_in x)) from then None
    else if leb to from then Some (run_of_none None)
    else Some (run_of from to x)
