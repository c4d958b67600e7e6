use Rattle.words.proofs.Prelude.{sym, ℕ, eq-eqb, ne_eqb, List}
use Rattle.words.proofs.CodedLaws.{entries_length}
use Rattle.state_cache.specs.State.{Raw}
use Rattle.host.proofs.showing.reply_of.Goals as goal

pub returns-then-shown-eq1 : goal.returns-then-shown-eq1
returns-then-shown-eq1 c =
    λ (x : Raw) (log : List ℕ). sym (rw (eq-eqb _ _ c.if-shown-eq1.true, entries_length))

pub returns : goal.returns
returns c =
    λ (x : Raw) (log : List ℕ). sym (rw (ne_eqb _ _ c.if-shown-eq1.false))
