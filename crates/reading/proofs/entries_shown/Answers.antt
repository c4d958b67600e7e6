-- `reading::entries_shown` meets its contract: each arm knows its reply.
use Rattle.words.proofs.Prelude.{◌≡◌, ◌∙◌}
use Rattle.std.specs.Prelude.{Some, None}
use Rattle.words.proofs.CodedLaws.{entries_length}
use Rattle.state_cache.specs.State.{Raw}
use Rattle.reading.proofs.{Showing.no_part}
use Rattle.reading.proofs.entries_shown.Goals as goal

pub returns-in-Ok-Some : goal.returns-in-Ok-Some
returns-in-Ok-Some c =
    let run : c.in-Ok-Some.field-0 ≡ Some c.in-Ok-Some.run' =
    rw c.in-Ok-Some.is at c.in-Ok-Some.field-0-is in
    λ (x : Raw). rw (c.in-Ok-Some.is, run, entries_length) c.entries_of.ensures

pub returns-in-Ok-None : goal.returns-in-Ok-None
returns-in-Ok-None c =
    let log = c.args.log in
    let none : c.in-Ok-None.field-0 ≡ None = rw c.in-Ok-None.is at c.in-Ok-None.field-0-is in
    let shown = no_part log.now log.ref_ptr in
    λ (x : Raw). rw (c.in-Ok-None.is, none)
    (c.entries_of-in-Ok-None.ensures.0 ∙ shown.0, c.entries_of-in-Ok-None.ensures.1 ∙ shown.1)

pub returns-in-Err : goal.returns-in-Err
returns-in-Err c =
    let log = c.args.log in
    let shown = no_part log.now log.ref_ptr in
    λ (x : Raw). rw c.in-Err.is (c.entries_of-in-Err.ensures.0 ∙ shown.0, c.entries_of-in-Err.ensures.1 ∙ shown.1)
