-- `records::inner::put_big` meets its contract: at each turn, what is left to put gives what is asked.
use Rattle.words.proofs.Prelude.{◌≡◌}
use Rattle.words.specs.Words.{spliced}
use Rattle.records.specs.Big.{big}
use Rattle.records.proofs.inner.put_big.Given as goal

abbrev pub invariant-loop-j : goal.invariant-loop-j
invariant-loop-j l = spliced l.at l.j (big l.j l.m) l.s ≡ spliced l.at l.k (big l.k l.n) l.initial.s
