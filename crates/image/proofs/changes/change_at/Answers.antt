-- `image::changes::change_at` meets its contract.
use Rattle.words.proofs.Prelude.{arith, refl, sym, ◌∙◌, ◌+◌, ◌≤◌, length}
use Rattle.words.specs.All.{all_of}
use Rattle.records.specs.Sealed.{total}
use Rattle.image.specs.Layout.{change_size}
use Rattle.image.proofs.ChangeSteps.{sealed_here, sealed_room, change_absent, change_present}
use Rattle.image.proofs.changes.change_at.Goals as goal
use Rattle.image.proofs.changes.change_at.Goals.{Else-not-sealed_at}

room : (c : Else-not-sealed_at) → c.args.at + change_size ≤ length
    c.args.s.now
room c =
    sealed_room c.args.s.now c.args.at c.requires
    (sym (sealed_here c.args.s.now c.args.at) ∙ sym c.sealed_at.ensures
    ∙ c.if-not-sealed_at.false)

pub returns-then-not-sealed_at : goal.returns-then-not-sealed_at
returns-then-not-sealed_at c =
    change_absent c.args.s.now c.args.at c.args.mark
    (sym (sealed_here c.args.s.now c.args.at) ∙ sym c.sealed_at.ensures ∙ c.if-not-sealed_at.true)

pub get_fields-requires : goal.get_fields-requires
unfolding total all_of
get_fields-requires c =
    record {
      widths_in_bounds = omega (arith, room (goal.at.get_fields-requires c).Else-not-sealed_at);
      widths_value = refl;
      ns_len = refl;
    }

pub returns : goal.returns
returns c =
    c.then_some.ensures
    ∙ change_present c.args.s.now c.args.at c.get_fields.new.ns c.get_fields.ensures c.args.mark
    c.get_big.result c.places_formed-fine.result
    (sym (sealed_here c.args.s.now c.args.at) ∙ sym c.sealed_at.ensures
    ∙ c.if-not-sealed_at.false)
    c.get_big.ensures c.places_formed-fine.ensures
