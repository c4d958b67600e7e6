-- `snapshot::snapshot_formed` meets its contract: each return takes the tests as far as it came.
use Rattle.words.proofs.Prelude.{arith, ◌≡◌, sym, ◌∙◌, true}
use Rattle.entry.specs.{Limits.snapshot_words, Change.stored_in}
use Rattle.entry.proofs.SliceLaws.{laid_of}
use Rattle.snapshot.specs.Calls.{snapshot_formed}
use Rattle.snapshot.proofs.snapshot_formed.Goals as goal

pub returns-then-not-laid_out : goal.returns-then-not-laid_out
unfolding snapshot_formed
returns-then-not-laid_out c =
    rw (sym c.laid_out.ensures ∙ c.if-not-laid_out.true)

pub keys_ascend-requires : goal.keys_ascend-requires
keys_ascend-requires c =
    let ok : stored_in snapshot_words c.args.keys c.args.s.now ≡ true = sym c.laid_out.ensures
    ∙ c.if-not-laid_out.false in
    let l = laid_of snapshot_words c.args.keys c.args.s.now ok in
    omega (arith, l.fits, l.long)

pub returns : goal.returns
unfolding snapshot_formed
returns c =
    rw (sym c.laid_out.ensures ∙ c.if-not-laid_out.false)
    c.keys_ascend.ensures
