use Rattle.words.proofs.Prelude.{sym, ap, le-leb, lt-leb, length}
use Rattle.host.specs.Reads.{copied}
use Rattle.host.proofs.showing.copy_out.Goals as goal

pub returns-then-part-out : goal.returns-then-part-out
returns-then-part-out c =
    rw (le-leb (length c.args.part.now) (length c.args.out.now) c.if-part-out.true)
    (ap (copied (length c.args.part.now)) c.copy_in.ensures)

pub returns-else-part-out : goal.returns-else-part-out
returns-else-part-out c =
    sym (rw (lt-leb (length c.args.part.now) (length c.args.out.now) c.if-part-out.false))
