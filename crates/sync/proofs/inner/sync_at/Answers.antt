-- `sync::inner::sync_at` meets its contract: the first refusal, or the snapshot and the suffix taken over.
use Rattle.words.proofs.Prelude.{◌≡◌, sym, ap₂, ◌∙◌, ◌/◌, Bool, false, ◌&&◌, length}
use Rattle.entry.proofs.RefusalLaws.{passed_up}
use Rattle.entry.specs.{Limits.width}
use Rattle.state_cache.specs.{State.raw, Inner.hole_in}
use Rattle.sync.specs.{Requests.delta_by, Inner.marked, Inner.Taken}
use Rattle.sync.proofs.Syncing.{sync_refused, sync_holed, fits, fits_small, sync_over, sync_stands}
use Rattle.sync.proofs.inner.sync_at.Goals as goal
use Rattle.sync.proofs.inner.sync_at.Goals.{After-take_suffix-next, Else-is_delta-hole}

whole : (e : Else-is_delta-hole) → (delta_by e.args.log_sync.decided_snapshot && hole_in e.args.index) ≡ false
whole e =
    ap₂ (λ (a b : Bool). a && b) (sym e.is_delta.ensures) (sym e.hole.ensures) ∙ e.if-is_delta-hole.false

took : (m : After-take_suffix-next) → Taken m.args.log_sync (length m.args.suffix.now / width) m.in_ok-keys.keys
    (marked m.args.accepted_round m.args.decided_idx.0 m.args.index) m.args.log.now
    m.args.suffix.now m.take_suffix-next.result m.take_suffix-next.new.log
took m =
    rw m.mark-marked.ensures at m.take_suffix-next.ensures

pub returns-in_err-check_sync : goal.returns-in_err-check_sync
returns-in_err-check_sync c =
    rw (passed_up c.from_residual.result _ c.from_residual.ensures.1)
    (sync_refused (raw c.args.index c.args.log.now c.args.snapshot.now) c.args.log_sync c.args.incoming.now
    c.args.suffix.now c.requires
    c.args.accepted_round c.args.decided_idx.0 _ _ c.in_err-check_sync.ensures)

pub returns-then-is_delta-hole : goal.returns-then-is_delta-hole
returns-then-is_delta-hole c =
    sync_holed (raw c.args.index c.args.log.now c.args.snapshot.now) c.args.log_sync c.args.incoming.now
    c.args.suffix.now c.requires
    c.args.accepted_round c.args.decided_idx.0 c.in_ok-check_sync.ensures
    (ap₂ (λ (a b : Bool). a && b) (sym c.is_delta.ensures) (sym c.hole.ensures) ∙ c.if-is_delta-hole.true)

pub take_suffix-next-requires : goal.take_suffix-next-requires
take_suffix-next-requires c =
    rw c.mark-marked.ensures (fits (raw c.args.index c.args.log.now c.args.snapshot.now) c.args.log_sync
    c.args.incoming.now c.args.suffix.now c.requires
    c.args.accepted_round c.args.decided_idx.0 c.in_ok-check_sync.ensures)

pub accepted-requires : goal.accepted-requires
accepted-requires c =
    fits_small (raw c.args.index c.args.log.now c.args.snapshot.now) c.args.log_sync c.args.incoming.now
    c.args.suffix.now c.requires
    c.args.accepted_round c.args.decided_idx.0 c.in_ok-check_sync.ensures _ c.take_suffix-next.result
    (took (goal.at.accepted-requires c).After-take_suffix-next).index

pub returns-in_err-keys : goal.returns-in_err-keys
returns-in_err-keys c =
    rw (passed_up c.from_residual-in_err-keys.result _ c.from_residual-in_err-keys.ensures.1)
    (sync_over (raw c.args.index c.args.log.now c.args.snapshot.now) c.args.log_sync c.args.incoming.now
    c.args.suffix.now c.requires
    c.args.accepted_round c.args.decided_idx.0 c.in_ok-check_sync.ensures
    (whole (goal.at.returns-in_err-keys c).Else-is_delta-hole) c.hold.result c.hold.new.snapshot c.hold.ensures _
    c.in_err-keys.was)

pub returns : goal.returns
returns c =
    sync_stands (raw c.args.index c.args.log.now c.args.snapshot.now) c.args.log_sync c.args.incoming.now
    c.args.suffix.now c.requires
    c.args.accepted_round c.args.decided_idx.0 c.in_ok-check_sync.ensures
    (whole (goal.at.returns c).Else-is_delta-hole) c.hold.result c.hold.new.snapshot c.hold.ensures _ c.in_ok-keys.was
    c.take_suffix-next.result c.take_suffix-next.new.log (took (goal.at.returns c).After-take_suffix-next)
    c.accepted.result c.accepted.ensures
