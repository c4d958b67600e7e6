-- `image::header::head_sound` meets its contract.
use Rattle.words.proofs.Prelude.{sym, ap, ◌∙◌, ◌≤◌, length}
use Rattle.image.specs.Layout.{head_size}
use Rattle.image.specs.Reading.{head_formed}
use Rattle.image.proofs.HeadLaws.{sealed_head, head_room, head_tests, head_open}
use Rattle.image.proofs.header.head_sound.Goals as goal
use Rattle.image.proofs.header.head_sound.Goals.{Else-not-sealed_at}

room : (c : Else-not-sealed_at) → head_size ≤ length c.args.s.now
room c =
    head_room c.args.s.now (sym (sealed_head c.args.s.now) ∙ sym c.sealed_at.ensures
    ∙ c.if-not-sealed_at.false)

pub returns-then-not-sealed_at : goal.returns-then-not-sealed_at
returns-then-not-sealed_at c =
    head_open c.args.s.now (sym (sealed_head c.args.s.now) ∙ sym c.sealed_at.ensures
    ∙ c.if-not-sealed_at.true)

pub returns : goal.returns
returns c =
    head_tests c.args.s.now c.flags_known-known.result c.head_formed-formed.result
    (sym (sealed_head c.args.s.now) ∙ sym c.sealed_at.ensures ∙ c.if-not-sealed_at.false)
    c.flags_known-known.ensures (c.head_formed-formed.ensures ∙ ap head_formed c.head_at.ensures)
