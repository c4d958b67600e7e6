use Rattle.words.proofs.Prelude.{◌≡◌, sym, ap, ◌∙◌, ℕ}
use Rattle.std.specs.Prelude.{Option, Some}
use Rattle.words.proofs.CodedLaws.{entries_length}
use Rattle.entry.specs.{Change.change_code, declared.LogIndex.LogIndex}
use Rattle.state_cache.specs.State.{Raw}
use Rattle.reading.specs.{Replies.marker_said, Replies.shown_said, declared.Marker.Marker, declared.ShownRun.ShownRun}
use Rattle.reading.specs.declared.Marker.TheVariants.{Snapshot}
use Rattle.host.specs.Reads.{marked, marked_as}
use Rattle.host.proofs.answers.run_said.Goals as goal

snapshot_marked : (x : Raw) (r : ShownRun) (i : LogIndex) (n : ℕ) → r.marker ≡ Some (Snapshot i n)
    → marked 2 i.0 n (shown_said x r) ≡ marked_as (marker_said x.snapshot r.marker) (shown_said x r)
snapshot_marked x r i n e =
    ap (λ (k : ℕ). marked 2 i.0 k (shown_said x r)) (sym (entries_length change_code n x.snapshot))
    ∙ ap (λ (m : Option Marker). marked_as (marker_said x.snapshot m) (shown_said x r)) (sym e)

pub returns-in-Snapshot : goal.returns-in-Snapshot
returns-in-Snapshot c =
    λ (x : Raw). c.show-in-Snapshot.ensures x
    ∙ snapshot_marked x c.args.r c.in-Snapshot.index c.in-Snapshot.keys (c.in-Some.is ∙ ap Some c.in-Snapshot.is)
