-- `snapshot::find` meets its contract: refusal 11, or what is found in a snapshot in form.
use Rattle.words.proofs.Prelude.{◌≡◌, sym, ap, ◌∙◌, true, Option}
use Rattle.entry.specs.{Change.Said, Guards.replied}
use Rattle.snapshot.specs.Calls.{snapshot_formed}
use Rattle.snapshot.proofs.Calling.{snapshot_holds, find_malformed, find_stands}
use Rattle.snapshot.proofs.find.Goals as goal
use Rattle.snapshot.proofs.find.Goals.{Else-not-snapshot_formed}

okay : (e : Else-not-snapshot_formed) → snapshot_formed e.args.keys
    e.args.s.now ≡ true
okay e =
    sym e.snapshot_formed.ensures ∙ e.if-not-snapshot_formed.false

pub returns-then-not-snapshot_formed : goal.returns-then-not-snapshot_formed
returns-then-not-snapshot_formed c =
    find_malformed c.args.keys c.args.s.now c.args.key
    (sym c.snapshot_formed.ensures ∙ c.if-not-snapshot_formed.true)

pub look_up-requires : goal.look_up-requires
look_up-requires c =
    let h = snapshot_holds c.args.keys c.args.s.now (okay c) in
    rw h.laid.long h

pub returns : goal.returns
returns c =
    ap (λ (o : Option Said). replied o) c.look_up.ensures ∙ find_stands c.args.keys c.args.s.now c.args.key (okay (goal.at.returns c).Else-not-snapshot_formed)
