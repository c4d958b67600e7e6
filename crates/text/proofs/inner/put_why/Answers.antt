-- `text::inner::put_why` meets its contract: each test decides the text.
use Rattle.words.proofs.Prelude.{rules}
use Rattle.words.proofs.Prelude.{eq-eqb, ne_eqb}
use Rattle.text.specs.Refusing.{why_text}
use Rattle.text.proofs.inner.put_why.Goals as goal

pub returns-then-number-eq15 : goal.returns-then-number-eq15
unfolding why_text
returns-then-number-eq15 c =
    let test = eq-eqb _ _ c.if-number-eq15.true in
    record {
      upper_bound = search rules;
      out_after = rw test c.put_one.ensures.out_after;
    }

pub returns-then-number-eq14 : goal.returns-then-number-eq14
unfolding why_text
returns-then-number-eq14 c =
    let first = ne_eqb _ _ c.if-number-eq15.false in
    let second = eq-eqb _ _ c.if-number-eq14.true in
    record {
      upper_bound = search rules;
      out_after = rw (first, second) c.put.ensures.out_after;
    }

pub returns : goal.returns
unfolding why_text
returns c =
    let first = ne_eqb _ _ c.if-number-eq15.false in
    let second = ne_eqb _ _ c.if-number-eq14.false in
    record {
      upper_bound = search rules;
      out_after = rw (first, second) c.put-2.ensures.out_after;
    }
