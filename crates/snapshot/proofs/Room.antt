-- How many keys a merge has: no fewer than either part.
use Rattle.words.proofs.Prelude.{arith, ◌≡◌, refl, sym, ap, ◌∙◌, ℕ, suc, ◌≤◌, ◌<◌, true, leb, le-leb, lt-leb}
use Rattle.words.proofs.Prelude.{if◌then◌else◌, List, [], ◌∷◌, length}
use Rattle.words.proofs.Tests.{Stand, below, same, above, stand, Reach, reached, short, reach}
use Rattle.entry.specs.Change.{Change}
use Rattle.snapshot.specs.Folds.{insert, fold_onto, merge, climbs, rising}
use Rattle.snapshot.proofs.Folds.{insert_nil, insert-below, insert_same, insert-above, climbs_head}
use Rattle.snapshot.proofs.Folds.{rising_climbs, tail_rises, onto_insert}
use Rattle.snapshot.proofs.Searching.{insert_grows}

-- the first part's keys stay
pub onto_grows : (s r : List Change) → length s ≤ length (fold_onto s r)
unfolding fold_onto
onto_grows s [] = omega arith
onto_grows s (c ∷ r) = omega (arith, insert_grows c s, onto_grows (insert c s) r)

-- the second part's keys are there: counted from a bound on, each is one more
from : ℕ → List Change → ℕ
from k [] = 0
from k (e ∷ s) = if leb k e.key then suc (from k s) else from k s

module _ (k : ℕ) (e : Change) (s : List Change) where
  from_more : k ≤ e.key → from k (e ∷ s) ≡ suc (from k s)
  unfolding from
  from_more h = rw (le-leb k e.key h)

  from_same : e.key < k → from k (e ∷ s) ≡ from k s
  unfolding from
  from_same h = rw (lt-leb k e.key h)

from_length : (k : ℕ) (s : List Change) → from k s ≤ length s
unfolding from
from_length k [] = omega arith
from_length k (e ∷ s) = by (from_length k s) (reach k e.key)
  where
    by : from k s ≤ length s → Reach k e.key → from k (e ∷ s) ≤ suc (length s)
    by ih (reached x) = omega (arith, from_more k e s x)
    by ih (short x) = omega (arith, from_same k e s x)

from_down : (j k : ℕ) (s : List Change) → j ≤ k → from k s ≤ from j s
unfolding from
from_down j k [] h = omega arith
from_down j k (e ∷ s) h = by (from_down j k s h) (reach k e.key) (reach j e.key)
  where
    by : from k s ≤ from j s → Reach k e.key → Reach j e.key → from k (e ∷ s) ≤ from j (e ∷ s)
    by ih (reached x) (reached y) = omega (arith, from_more k e s x, from_more j e s y)
    by ih (reached x) (short y) = absurd (omega arith)
    by ih (short x) (reached y) = omega (arith, from_same k e s x, from_more j e s y)
    by ih (short x) (short y) = omega (arith, from_same k e s x, from_same j e s y)

from_insert : (k : ℕ) (c : Change) (s : List Change) → k ≤ c.key → suc (from (suc c.key) s) ≤ from k (insert c s)
from_insert k c [] h = rw insert_nil (omega (arith, from_more k c [] h, from_length (suc c.key) []))
from_insert k c (e ∷ s) h = by (from_insert k c s h) (stand c.key e.key)
  where
    by : suc (from (suc c.key) s) ≤ from k (insert c s) → Stand c.key e.key
        → suc (from (suc c.key) (e ∷ s)) ≤ from k (insert c (e ∷ s))
    by ih (below x) = rw (insert-below c e s x)
        (omega (arith, from_more k c (e ∷ s) h, from_down k (suc c.key) (e ∷ s) (omega arith)))
    by ih (same x) =
        rw (insert_same c e s x) (omega (arith, from_more k c s h, from_same (suc c.key) e s (omega arith), from_down k (suc c.key) s (omega arith)))
    by ih (above x) = rw (insert-above c e s x) (last (reach k e.key))
      where
        last : Reach k e.key → suc (from (suc c.key) (e ∷ s)) ≤ from k (e ∷ insert c s)
        last (reached y) = omega (arith, from_same (suc c.key) e s (omega arith), from_more k e (insert c s) y)
        last (short y) = omega (arith, from_same (suc c.key) e s (omega arith), from_same k e (insert c s) y)

insert_first : (c : Change) (s : List Change) → climbs c.key s ≡ true → insert c s ≡ c ∷ s
insert_first c [] e = insert_nil c
insert_first c (d ∷ s) e = insert-below c d s (climbs_head c.key d s e)

onto_from : (k : ℕ) (s t : List Change) → rising t ≡ true → ((d : Change) (r : List Change) → t ≡ d ∷ r → k ≤ d.key)
    → length t ≤ from k (fold_onto s t)
onto_from k s [] up low = omega arith
onto_from k s (d ∷ t) up low =
    let c : climbs d.key t ≡ true = rising_climbs d t up in
    let q : fold_onto s (d ∷ t) ≡ insert d (fold_onto s t) = ap (fold_onto s) (sym (insert_first d t c))
    ∙ onto_insert d s t (tail_rises d.key t c) in
    let n : length t ≤ from (suc d.key) (fold_onto s t) =
    onto_from (suc d.key) s t (tail_rises d.key t c) (above_head t c) in
    rw q (omega (arith, from_insert k d (fold_onto s t) (low d t refl)))
  where
    above_head : (t : List Change) → climbs d.key t ≡ true → (f : Change) (r : List Change) → t ≡ f ∷ r
        → suc d.key ≤ f.key
    above_head t c f r e = let h = climbs_head d.key f r (rw e at c) in omega arith

pub merge_second : (a b : List Change) → rising b ≡ true → length b ≤ length (merge a b)
unfolding merge
merge_second a b up = omega (arith, onto_from 0 a b up (λ d r e. omega arith), from_length 0 (fold_onto a b))

pub merge_first : (a b : List Change) → length a ≤ length (merge a b)
unfolding merge
merge_first a b = onto_grows a b
