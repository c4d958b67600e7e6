-- `text::numbered` meets its contract: at each `return` the comparisons that led there say which case holds.
use Rattle.words.proofs.Prelude.{arith, ◌≡◌, sym, ap, ◌∙◌, true, false, ltb, lt-ltb, le-ltb}
use Prim.Native.Nat.{◌^◌}
use Rattle.text.specs.declared.Command.TheVariants.{Stop}
use Rattle.text.specs.Parse.{◌is◌, numbered_of}
use Rattle.text.proofs.ParseLaws.{is_by}
use Rattle.text.proofs.numbered.Goals as goal
use Rattle.text.proofs.numbered.Goals.{Else-eq, Else-eq-2, Else-eq-3, Else-eq-4}

-- what each comparison that failed says
noBatch : (c : Else-eq) → (c.args.w.now is "batch") ≡ false
noBatch c =
    is_by c.args.w.now _ c.as_slice.ensures c.eq.ensures c.if-eq.false

noDel : (c : Else-eq-2) → (c.args.w.now is "del") ≡ false
noDel c =
    is_by c.args.w.now _ c.as_slice-2.ensures c.eq-2.ensures c.if-eq-2.false

noDecide : (c : Else-eq-3) → (c.args.w.now is "decide") ≡ false
noDecide c =
    is_by c.args.w.now _ c.as_slice-3.ensures c.eq-3.ensures c.if-eq-3.false

noFind : (c : Else-eq-4) → (c.args.w.now is "find") ≡ false
noFind c =
    is_by c.args.w.now _ c.as_slice-4.ensures c.eq-4.ensures c.if-eq-4.false

pub returns-then-eq : goal.returns-then-eq
unfolding numbered_of
returns-then-eq c =
    rw (is_by c.args.w.now _ c.as_slice.ensures c.eq.ensures c.if-eq.true)

pub returns-then-eq-2 : goal.returns-then-eq-2
unfolding numbered_of
returns-then-eq-2 c =
    rw (noBatch (goal.at.returns-then-eq-2 c).Else-eq, is_by c.args.w.now _ c.as_slice-2.ensures c.eq-2.ensures c.if-eq-2.true)

pub returns-then-eq-3 : goal.returns-then-eq-3
unfolding numbered_of
returns-then-eq-3 c =
    rw (noBatch (goal.at.returns-then-eq-3 c).Else-eq, noDel (goal.at.returns-then-eq-3 c).Else-eq-2, is_by c.args.w.now _ c.as_slice-3.ensures c.eq-3.ensures c.if-eq-3.true)

pub returns-then-eq-4 : goal.returns-then-eq-4
unfolding numbered_of
returns-then-eq-4 c =
    rw (noBatch (goal.at.returns-then-eq-4 c).Else-eq, noDel (goal.at.returns-then-eq-4 c).Else-eq-2, noDecide (goal.at.returns-then-eq-4 c).Else-eq-3, is_by c.args.w.now _ c.as_slice-4.ensures c.eq-4.ensures c.if-eq-4.true)

pub returns-in_default : goal.returns-in_default
unfolding numbered_of
returns-in_default c =
    let h : ltb c.args.n (2 ^ 32) ≡ false = le-ltb _ _ (omega (arith, c.in_default.ensures)) in
    rw (noBatch (goal.at.returns-in_default c).Else-eq, noDel (goal.at.returns-in_default c).Else-eq-2, noDecide (goal.at.returns-in_default c).Else-eq-3, noFind (goal.at.returns-in_default c).Else-eq-4, is_by c.args.w.now _ c.as_slice-5.ensures c.eq-5.ensures c.if-eq-5.true, h)

pub returns-then-eq-5 : goal.returns-then-eq-5
unfolding numbered_of
returns-then-eq-5 c =
    let h : ltb c.args.n (2 ^ 32) ≡ true = lt-ltb _ _ c.in-Ok.ensures.0 in
    rw (noBatch (goal.at.returns-then-eq-5 c).Else-eq, noDel (goal.at.returns-then-eq-5 c).Else-eq-2, noDecide (goal.at.returns-then-eq-5 c).Else-eq-3, noFind (goal.at.returns-then-eq-5 c).Else-eq-4, is_by c.args.w.now _ c.as_slice-5.ensures c.eq-5.ensures c.if-eq-5.true, h) (ap Stop c.in-Ok.ensures.1)

pub returns : goal.returns
unfolding numbered_of
returns c =
    rw (noBatch (goal.at.returns c).Else-eq, noDel (goal.at.returns c).Else-eq-2, noDecide (goal.at.returns c).Else-eq-3, noFind (goal.at.returns c).Else-eq-4, is_by c.args.w.now _ c.as_slice-5.ensures c.eq-5.ensures c.if-eq-5.false)
