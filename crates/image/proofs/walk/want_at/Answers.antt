-- `image::walk::want_at` meets its contract.
use Rattle.words.proofs.Prelude.{arith}
use Rattle.image.proofs.Walks.{want_key, want_entry, want_stop}
use Rattle.image.proofs.walk.want_at.Goals as goal

pub returns-then-i-h : goal.returns-then-i-h
returns-then-i-h c =
    want_key c.args.h c.args.i (omega arith)

pub returns-then-i-h-2 : goal.returns-then-i-h-2
returns-then-i-h-2 c =
    want_entry c.args.h c.args.i (omega arith) (omega arith)

pub returns : goal.returns
returns c =
    want_stop c.args.h c.args.i (omega arith) (omega arith) c.requires
