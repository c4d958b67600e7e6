use Rattle.words.proofs.Prelude.{sym, lt-ltb, le-ltb}
use Rattle.host.proofs.asked.keys_of.Goals as goal

pub returns-then-kind-lt3 : goal.returns-then-kind-lt3
returns-then-kind-lt3 c =
    sym (rw (lt-ltb _ _ c.if-kind-lt3.true))

pub returns-else-kind-lt3 : goal.returns-else-kind-lt3
returns-else-kind-lt3 c =
    sym (rw (le-ltb _ _ c.if-kind-lt3.false))
