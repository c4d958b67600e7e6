-- `text::inner::gap` meets its contract: the library's first place, or the length.
use Rattle.words.proofs.Prelude.{ap, ◌∙◌, ℕ, length}
use Rattle.std.specs.Prelude.{Option, unwrap_or}
use Rattle.text.proofs.ParseLaws.{gap-position}
use Rattle.text.proofs.inner.gap.Goals as goal

pub returns-clause-value : goal.returns-clause-value
returns-clause-value c =
    c.unwrap_or.ensures
    ∙ ap (λ (o : Option ℕ). unwrap_or o (length c.args.s.now)) c.first.ensures
    ∙ gap-position c.args.b c.args.s.now
