-- Two replies of a read that meet a claim are one: what a reply says tells its marker, where its part starts, how many
-- entries it has and how many are decided, and its stop-sign. So are two of a lookup of many keys, with their words.
use Rattle.words.proofs.Prelude.{◌≡◌, refl, sym, ap, ap₂, ◌∙◌, ℕ, Option, none, some, List, length}
use Rattle.std.specs.Prelude.{Option as Optional, Some, None, Result}
use Rattle.words.proofs.CodedLaws.{entries_length}
use Rattle.entry.specs.{Change.change_code, Guards.Answer, declared.Refusal.Refusal}
use Rattle.entry.proofs.RefusalLaws.{said_known}
use Rattle.model.specs.{Log.given, Read.Span, Read.Marker, Read.trimmed, Read.snapshotted, Read.Shown}
use Rattle.state_cache.specs.{State.Raw, Run.settled}
use Rattle.state_cache.proofs.{Stands.given_by, Unique.Known}
use Rattle.reading.specs.Replies.{span_is, span_says, marker_said, shown_said, run_is, read_said}
use Rattle.reading.specs.declared.Marker.{Marker as CodeMarker}
use Rattle.reading.specs.declared.Marker.TheVariants.{Trimmed, Snapshot}
use Rattle.reading.specs.declared.ShownRun.{ShownRun}
use Rattle.reading.proofs.Showing.{lent_count}

-- the replies that say what is shown
abbrev marker_of : Option Marker → Optional CodeMarker
marker_of none = None
marker_of (some (trimmed i)) = Some (Trimmed (record { 0 = i }))
marker_of (some (snapshotted i es)) = Some (Snapshot (record { 0 = i }) (length es))

abbrev run_of : Shown → ShownRun
run_of v = record {
  marker = marker_of v.marker;
  first = v.part.first;
  count = length v.part.entries;
  decided = v.decided;
  stop = given v.stop;
  stop_decided = v.stop_decided;
}

marker_back : (ws : List ℕ) (m : Optional CodeMarker) → marker_of (marker_said ws m) ≡ m
marker_back ws None = refl
marker_back ws (Some (Trimmed i)) = refl
marker_back ws (Some (Snapshot i keys)) = ap (λ (n : ℕ). Some (Snapshot i n)) (entries_length change_code keys ws)

run_back : (x : Raw) (r : ShownRun) → run_of (shown_said x r) ≡ r
run_back x r = rw (
  marker_back x.snapshot r.marker,
  lent_count x.log r.first r.count,
  given_by r.stop x.index.stop,
)

span_back : (log : List ℕ) → Known (span_is log)
span_back log s t e = ap₂ (λ (i n : ℕ). record { first = i; count = n }) (ap (λ (p : Span). p.first) e)
    (sym (lent_count log s.first s.count) ∙ ap (λ (p : Span). length p.entries) e ∙ lent_count log t.first t.count)

pub span_unique : (log : List ℕ) → Known (span_says log)
span_unique log = said_known (span_is log) (span_back log)

runs_back : (x : Raw) → Known (run_is x)
runs_back x None None e = refl
runs_back x None (Some q) e = cc
runs_back x (Some r) None e = cc
runs_back x (Some r) (Some q) e =
    let p : shown_said x r ≡ shown_said x q = cc in
    ap Some (sym (run_back x r) ∙ ap run_of p ∙ run_back x q)

pub read_unique : (x : Raw) → Known (read_said x)
read_unique x = said_known (run_is x) (runs_back x)

settled_known : Known settled
settled_known = said_known (λ (u : Unit {0}). tt) (λ a b e. refl)

pub many_unique : (a b : Result (Unit {0}) Refusal) (v w : List ℕ) (claim : Answer (Unit {0}) × List ℕ)
    → (settled a, v) ≡ claim → (settled b, w) ≡ claim → (a ≡ b) × (v ≡ w)
many_unique a b v w claim e f =
    let o : ◌≡◌ {A = Answer (Unit {0}) × List ℕ} (settled a, v) (settled b, w) = e ∙ sym f in (
      settled_known a b (ap (λ (x : Answer (Unit {0}) × List ℕ). x.0) o),
      ap (λ (x : Answer (Unit {0}) × List ℕ). x.1) o,
    )
