-- `snapshot::inner::look_up` meets its contract: by where the search ended.
use Rattle.words.proofs.Prelude.{arith, sym, ap, ◌∙◌, some}
use Rattle.entry.specs.Change.{Said}
use Rattle.snapshot.proofs.{Searching.spot_inside, Calling.look_none, Calling.look_at}
use Rattle.snapshot.proofs.inner.look_up.Goals as goal

pub returns-in_default : goal.returns-in_default
returns-in_default c =
    look_none c.args.n c.args.s.now c.args.key _ (sym c.in_default.is ∙ c.search.ensures)

pub said_at-requires : goal.said_at-requires
said_at-requires c =
    omega (
      arith,
      c.requires.laid.fits,
      spot_inside c.args.n c.args.s.now
          c.args.key _ (sym c.in-Ok.is ∙ c.search.ensures),
    )

pub returns : goal.returns
returns c =
    ap (λ (x : Said). some x) c.said_at.ensures
    ∙ look_at c.args.n c.args.s.now c.args.key _ (sym c.in-Ok.is ∙ c.search.ensures)
