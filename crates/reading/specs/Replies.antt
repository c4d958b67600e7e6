-- What the code's bounds and read replies say in the model's words, and the words of the entries that they show.
use Rattle.std.specs.Prelude.{ℕ, ◌*◌, List, [], length, drop, if◌then◌else◌, Option as Optional, Some, None, Result}
use Rattle.std.specs.declared.ops.Bound.{Bound as CodeBound}
use Rattle.std.specs.declared.ops.Bound.TheVariants.{Included, Excluded, Unbounded}
use Rattle.std.proofs.Math.Option.{Option, none, some}
use Rattle.entry.specs.Limits.{width}
use Rattle.entry.specs.Change.{entries_of}
use Rattle.entry.specs.Guards.{Answer, refused, replied, said_by}
use Rattle.entry.specs.declared.LogIndex.{LogIndex}
use Rattle.entry.specs.declared.Refusal.{Refusal}
use Rattle.model.specs.Read.{Bound, included, excluded, unbounded, Marker, trimmed, snapshotted}
use Rattle.model.specs.Read.{Span, span, Shown, shown}
use Rattle.state_cache.specs.State.{Raw}
use Rattle.reading.specs.Parts.{part, part_at}
use Rattle.reading.specs.declared.Span.{Span as CodeSpan}
use Rattle.reading.specs.declared.Marker.{Marker as CodeMarker}
use Rattle.reading.specs.declared.Marker.TheVariants.{Trimmed, Snapshot}
use Rattle.reading.specs.declared.ShownRun.{ShownRun}

abbrev pub bound_of : CodeBound LogIndex → Bound
bound_of (Included i) = included i.0
bound_of (Excluded i) = excluded i.0
bound_of Unbounded = unbounded

-- so many entries of the lent log, from the first-th on
abbrev pub lent_span : List ℕ → ℕ → ℕ → Span
lent_span log first count = span first (entries_of count (drop (first * width) log))

abbrev pub span_is : List ℕ → CodeSpan → Span
span_is log s = lent_span log s.first s.count

abbrev pub span_says : List ℕ → Result CodeSpan Refusal → Answer Span
span_says log r = said_by (span_is log) r

-- the snapshot that a marker names is the one lent
abbrev pub marker_said : List ℕ → Optional CodeMarker → Option Marker
marker_said snapshot None = none
marker_said snapshot (Some (Trimmed i)) = some (trimmed i.0)
marker_said snapshot (Some (Snapshot i keys)) = some (snapshotted i.0 (entries_of keys snapshot))

-- a run's entries are those of the lent log, and its stop-sign is the record's
abbrev pub shown_said : Raw → ShownRun → Shown
shown_said x r =
    shown (marker_said x.snapshot r.marker) (lent_span x.log r.first r.count) r.decided
    (if r.stop then some x.index.stop else none) r.stop_decided

abbrev pub run_is : Raw → Optional ShownRun → Option Shown
run_is x None = none
run_is x (Some r) = some (shown_said x r)

abbrev pub read_said : Raw → Result (Optional ShownRun) Refusal → Answer (Option Shown)
read_said x r = said_by (run_is x) r

-- the words of the entries that an answer shows, and where they stand
abbrev pub part_shown : Answer (Option Shown) → List ℕ → List ℕ
part_shown (refused n k) log = []
part_shown (replied none) log = []
part_shown (replied (some v)) log = part v.part.first (length v.part.entries) log

abbrev pub part_shown_at : Answer (Option Shown) → List ℕ → ℕ × ℕ → ℕ × ℕ
part_shown_at (refused n k) log p = p
part_shown_at (replied none) log p = p
part_shown_at (replied (some v)) log p = part_at v.part.first (length v.part.entries) log p
