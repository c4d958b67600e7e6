-- `backend::write_list` meets its contract: refusals 12 and 11, then the list.
use Rattle.words.proofs.Prelude.{◌≡◌, sym, ◌∙◌, true, ◌&&◌}
use Rattle.model.specs.{Backend.ops_formed, Calls.write}
use Rattle.state_cache.specs.State.{Raw, raw, formed}
use Rattle.state_cache.proofs.Runs.{ill_formed}
use Rattle.backend.specs.Ops.{ops_in, lent_of, whole_list}
use Rattle.backend.proofs.Requests.{listed_of, request_refused, request_run}
use Rattle.backend.proofs.write_list.Goals as goal
use Rattle.backend.proofs.write_list.Goals.{Else-not-request_formed, Else-not-well_formed}

abbrev state : Else-not-well_formed → Raw
state e = raw e.args.index e.args.log.now e.args.snapshot.now

okay : (e : Else-not-well_formed) → formed (state e) ≡ true
okay e = sym e.well_formed-2.ensures ∙ e.if-not-well_formed.false

asked : (f : Else-not-request_formed)
    → (whole_list f.args.lent f.args.entries.now f.args.incoming.now f.args.list
    && ops_formed (lent_of f.args.lent f.args.entries.now f.args.incoming.now) (ops_in f.args.list)) ≡ true
asked f = sym f.request_formed.ensures ∙ f.if-not-request_formed.false

pub returns-then-not-well_formed : goal.returns-then-not-well_formed
returns-then-not-well_formed c =
    ill_formed (write (lent_of c.args.lent c.args.entries.now c.args.incoming.now) (ops_in c.args.list))
    (whole_list c.args.lent c.args.entries.now c.args.incoming.now c.args.list)
    (raw c.args.index c.args.log.now c.args.snapshot.now)
    (sym c.well_formed-2.ensures ∙ c.if-not-well_formed.true)

pub returns-then-not-request_formed : goal.returns-then-not-request_formed
returns-then-not-request_formed c =
    let e : Else-not-well_formed = (goal.at.returns-then-not-request_formed c).Else-not-well_formed in
    request_refused c.args.lent c.args.entries.now c.args.incoming.now c.args.list (state e) (okay e)
    (sym c.request_formed.ensures ∙ c.if-not-request_formed.true)

pub write_at-requires : goal.write_at-requires
write_at-requires c =
    let e : Else-not-well_formed = (goal.at.write_at-requires c).Else-not-well_formed in
    listed_of c.args.lent c.args.entries.now c.args.incoming.now c.args.list (state e) (okay e)
    (asked (goal.at.write_at-requires c).Else-not-request_formed)

pub returns : goal.returns
returns c =
    let e : Else-not-well_formed = (goal.at.returns c).Else-not-well_formed in
    c.write_at.ensures
    ∙ request_run c.args.lent c.args.entries.now c.args.incoming.now c.args.list (state e) (okay e)
    (asked (goal.at.returns c).Else-not-request_formed)
