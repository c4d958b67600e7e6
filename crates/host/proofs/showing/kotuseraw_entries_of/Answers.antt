use Rattle.words.proofs.Prelude.{ap, ◌∙◌, ℕ, List}
use Rattle.host.specs.Reads.{copied_out}
use Rattle.host.proofs.showing.kotuseraw_entries_of.Goals as goal

pub returns : goal.returns
returns c =
    c.copy_out.ensures
    ∙ ap (λ (p : List ℕ). copied_out p c.args.out.now) c.entries_of.ensures.0
