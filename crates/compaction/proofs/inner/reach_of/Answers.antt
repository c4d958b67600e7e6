-- `compaction::inner::reach_of` meets its contract: refusal 2, then by whether the target passes compacted.
use Rattle.words.proofs.Prelude.{arith, sym, ◌∙◌, []}
use Rattle.entry.specs.Guards.{first}
use Rattle.entry.proofs.GuardLaws.{first_refuses, first_goes_on}
use Rattle.compaction.proofs.inner.reach_of.Goals as goal

pub returns-then-past_decided : goal.returns-then-past_decided
returns-then-past_decided c =
    sym (first_refuses 2 _ _ [] (sym c.past_decided.ensures ∙ c.if-past_decided.true))

pub returns-then-to-index : goal.returns-then-to-index
unfolding first
returns-then-to-index c =
    record {
      verdict = sym (first_goes_on 2 _ _ [] (sym c.past_decided.ensures ∙ c.if-past_decided.false));
      low = omega (arith, c.target-to.ensures, c.if-to-index.true);
    }

pub returns : goal.returns
unfolding first
returns c =
    record {
      verdict = sym (first_goes_on 2 _ _ [] (sym c.past_decided.ensures ∙ c.if-past_decided.false));
      is = c.target-to.ensures;
      up = c.if-to-index.false;
    }
