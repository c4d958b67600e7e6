-- `entry::inner::laid_out` meets its contract: each return takes the tests as far as it came.
use Rattle.words.proofs.Prelude.{arith, ◌*◌, ◌≤◌, ◌<◌, eq-eqb, ne_eqb, le-leb, lt-leb}
use Rattle.entry.specs.{Limits.width, Change.stored_in}
use Rattle.entry.proofs.inner.laid_out.Goals as goal

pub returns-then-s-words : goal.returns-then-s-words
unfolding stored_in
returns-then-s-words c =
    simp (ne_eqb _ _ c.if-s-words.true)

pub returns-then-words-n : goal.returns-then-words-n
unfolding stored_in
returns-then-words-n c =
    let h : c.args.words < c.args.n * width = omega arith in
    simp (eq-eqb _ _ c.if-s-words.false, lt-leb _ _ h)

pub returns : goal.returns
unfolding stored_in
returns c =
    let h : c.args.n * width ≤ c.args.words = omega arith in
    simp (eq-eqb _ _ c.if-s-words.false, le-leb _ _ h) cc
