-- `sync::sync_log` meets its contract: refusals 12 and 11, then a sync without log part, or one with it, of a
-- well-formed log.
use Rattle.words.proofs.Prelude.{◌≡◌, sym, ◌∙◌, true}
use Rattle.std.specs.Prelude.{Some, None}
use Rattle.model.specs.Calls.{sync}
use Rattle.state_cache.specs.State.{raw, formed}
use Rattle.state_cache.proofs.{Stands.ready_of, Runs.ill_formed}
use Rattle.sync.specs.Requests.{part_of, lent_whole, request_formed}
use Rattle.sync.proofs.Asking.{ask_refused, ask_syncs, ask_goes_on, round_run}
use Rattle.sync.proofs.sync_log.Goals as goal
use Rattle.sync.proofs.sync_log.Goals.{Else-not-request_formed, Else-not-well_formed}

okay : (e : Else-not-well_formed) → formed (raw e.args.index e.args.log.now e.args.snapshot.now) ≡ true
okay e =
    sym e.well_formed-2.ensures ∙ e.if-not-well_formed.false

-- the request is in form
asked : (f : Else-not-request_formed)
    → request_formed f.args.log_sync f.args.incoming.now f.args.suffix.now ≡ true
asked f =
    sym f.request_formed.ensures ∙ f.if-not-request_formed.false

pub returns-then-not-well_formed : goal.returns-then-not-well_formed
returns-then-not-well_formed c =
    ill_formed (sync c.args.accepted_round c.args.decided_idx.0 (part_of c.args.log_sync c.args.incoming.now
    c.args.suffix.now)) (lent_whole c.args.log_sync c.args.incoming.now c.args.suffix.now)
    (raw c.args.index c.args.log.now c.args.snapshot.now)
    (sym c.well_formed-2.ensures ∙ c.if-not-well_formed.true)

pub returns-then-not-request_formed : goal.returns-then-not-request_formed
returns-then-not-request_formed c =
    ask_refused (raw c.args.index c.args.log.now c.args.snapshot.now)
    (okay (goal.at.returns-then-not-request_formed c).Else-not-well_formed) c.args.log_sync
    c.args.incoming.now c.args.suffix.now c.args.accepted_round
    c.args.decided_idx.0 (sym c.request_formed.ensures ∙ c.if-not-request_formed.true)

pub round_at-requires : goal.round_at-requires
round_at-requires c =
    (ready_of (raw c.args.index c.args.log.now c.args.snapshot.now)
    (okay (goal.at.round_at-requires c).Else-not-well_formed)).numbers

pub returns-in_default : goal.returns-in_default
returns-in_default c =
    let at = goal.at.returns-in_default c in
    rw c.in_default.is
    (round_run (raw c.args.index c.args.log.now c.args.snapshot.now) (okay at.Else-not-well_formed)
    c.args.accepted_round
    c.args.decided_idx.0 c.round_at.result c.round_at.ensures
    ∙ ask_goes_on (raw c.args.index c.args.log.now c.args.snapshot.now) (okay at.Else-not-well_formed) None
    c.args.incoming.now
    c.args.suffix.now c.args.accepted_round c.args.decided_idx.0
    (rw c.in_default.is at (asked at.Else-not-request_formed)))

pub sync_at-requires : goal.sync_at-requires
sync_at-requires c =
    ask_syncs (raw c.args.index c.args.log.now c.args.snapshot.now)
    (okay (goal.at.sync_at-requires c).Else-not-well_formed) _ c.args.incoming.now c.args.suffix.now
    (rw c.in-Some.is at (asked (goal.at.sync_at-requires c).Else-not-request_formed))

pub returns : goal.returns
returns c =
    let at = goal.at.returns c in
    rw c.in-Some.is
    (c.sync_at.ensures
    ∙ ask_goes_on (raw c.args.index c.args.log.now c.args.snapshot.now) (okay at.Else-not-well_formed)
    (Some c.in-Some.part)
    c.args.incoming.now c.args.suffix.now c.args.accepted_round c.args.decided_idx.0
    (rw c.in-Some.is at (asked at.Else-not-request_formed)))
