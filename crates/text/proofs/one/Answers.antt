-- `text::one` meets its contract: after `snap` and `trim` how far, and after any other word a number or none.
use Rattle.words.proofs.Prelude.{◌≡◌, sym, ◌∙◌, false}
use Rattle.text.specs.Parse.{◌is◌, with_one}
use Rattle.text.proofs.ParseLaws.{is_by}
use Rattle.text.proofs.one.Goals as goal
use Rattle.text.proofs.one.Goals.{Else-eq, Else-eq-2}

-- what each comparison that failed says
noSnap : (c : Else-eq) → (c.args.w.now is "snap") ≡ false
noSnap c =
    is_by c.args.w.now _ c.as_slice.ensures c.eq.ensures c.if-eq.false

noTrim : (c : Else-eq-2) → (c.args.w.now is "trim")
    ≡ false
noTrim c =
    is_by c.args.w.now _ c.as_slice-2.ensures c.eq-2.ensures c.if-eq-2.false

pub returns-then-eq : goal.returns-then-eq
unfolding with_one
returns-then-eq c =
    rw (is_by c.args.w.now _ c.as_slice.ensures c.eq.ensures c.if-eq.true) c.compact.ensures

pub returns-then-eq-2 : goal.returns-then-eq-2
unfolding with_one
returns-then-eq-2 c =
    rw (noSnap (goal.at.returns-then-eq-2 c).Else-eq, is_by c.args.w.now _ c.as_slice-2.ensures c.eq-2.ensures c.if-eq-2.true) c.compact-then-eq-2.ensures

pub returns-in_default : goal.returns-in_default
unfolding with_one
returns-in_default c =
    rw (noSnap (goal.at.returns-in_default c).Else-eq, noTrim (goal.at.returns-in_default c).Else-eq-2, sym c.number.ensures ∙ c.in_default.is)

pub returns : goal.returns
unfolding with_one
returns c =
    rw (
      noSnap (goal.at.returns c).Else-eq,
      noTrim (goal.at.returns c).Else-eq-2,
      sym c.number.ensures
          ∙ c.in-Some.is,
    ) c.numbered.ensures
