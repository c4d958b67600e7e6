-- `entry::inner::joined` meets its contract: where the `or` is below 2^48 each place passed is in form, so that only
-- the rest is asked.
use Rattle.words.proofs.Prelude.{arith, ◌≡◌, ap, ◌∙◌, ℕ, suc, ◌+◌, ◌≤◌, add-one, true, List, ◌∷◌}
use Rattle.words.proofs.Prelude.{drop_of_length-le, length, drop}
use lib.Bits.{or_add_and, and_le_l, and_le_r}
use Rattle.words.specs.All.{all_of}
use Rattle.words.proofs.{Alls.all_cons, CodedLaws.entries_length}
use Rattle.entry.specs.{Change.Change, Change.change_code, Change.change_formed}
use Rattle.entry.specs.{Change.entries_formed, Change.entries_of, Inner.change_at}
use Rattle.entry.proofs.{ChangeLaws.entry_cons}
use Rattle.entry.proofs.inner.joined.Goals as goal

-- one place more is in form
turn : (i : ℕ) (x : Change) (l : List Change) → drop i l ≡ x ∷ drop (suc i) l → change_formed x ≡ true
    → entries_formed (drop (i + 1) l) ≡ true → entries_formed (drop i l) ≡ true
turn i x l e f g = ap entries_formed e ∙ all_cons change_formed x (drop (suc i) l) f (rw (← add-one i) g)

none_left : (l : List Change) (i : ℕ) → length l ≤ i → entries_formed (drop i l) ≡ true
unfolding all_of
none_left l i h = ap entries_formed (drop_of_length-le l {i = i} h)

pub loop-i-preserved : goal.loop-i-preserved
loop-i-preserved c =
    let es = entries_of c.args.n c.args.s.now in
    let w = c.next_word-all.result in (
      omega arith,
      λ h e. c.loop-i.invariant.1 (omega (arith, h, or_add_and c.loop-i.all w, and_le_r c.loop-i.all w))
          (turn c.loop-i.i (change_at c.args.s.now c.loop-i.i) es
          (entry_cons c.loop-i.i c.args.n c.args.s.now (omega arith))
          (c.next_word-all.ensures (omega (arith, h, or_add_and c.loop-i.all w, and_le_l c.loop-i.all w))) e),
    )

pub returns : goal.returns
returns c =
    let es = entries_of c.args.n c.args.s.now in
    λ h. c.loop-i.invariant.1 h (none_left es c.loop-i.i (omega (arith, entries_length change_code c.args.n c.args.s.now)))
