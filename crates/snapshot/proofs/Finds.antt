-- What is found: in a run, after an insert, and in a fold.
use Rattle.words.proofs.Prelude.{arith, ◌≡◌, refl, sym, ap, ◌∙◌, ℕ, ◌<◌, Bool, true, false, eqb, eq-eqb, ne_eqb}
use Rattle.words.proofs.Prelude.{eqb-true, eqb-false, lt-ltb, le-ltb, if◌then◌else◌, Option, none, some, List, []}
use Rattle.words.proofs.Prelude.{◌∷◌, ◌++◌, drop}
use mathlib.Core.Option.{or_else}
use Rattle.words.proofs.Tests.{Stand, below, same, above, stand}
use Rattle.entry.specs.Change.{Said, Change}
use Rattle.snapshot.specs.{Folds.insert, Folds.fold_onto, Folds.find, Folds.last_of, Inner.rank, Inner.here}
use Rattle.snapshot.proofs.Folds.{insert_nil, insert-below, insert_same, insert-above}
use Rattle.snapshot.proofs.Searching.{rank_below, rank_stop, here_below, here_stop, here_nil}

-- find, by how the first key stands
module _ (k : ℕ) (d : Change) (s : List Change) where
  find_above : d.key < k → find k (d ∷ s) ≡ find k s
  unfolding find
  find_above h = rw (lt-ltb d.key k h)

  find_same : d.key ≡ k → find k (d ∷ s) ≡ some d.said
  unfolding find
  find_same h = rw (le-ltb d.key k (omega arith), eq-eqb d.key k h)

  find_below : k < d.key → find k (d ∷ s) ≡ none
  unfolding find
  find_below h = rw (le-ltb d.key k (omega arith), ne_eqb d.key k (omega arith))

-- where a search ends, absent or found
pub find_absent : (k : ℕ) (es : List Change) → here es k ≡ false → find k es ≡ none
unfolding find
find_absent k [] e = refl
find_absent k (d ∷ es) e = by (find_absent k es) (stand d.key k)
  where
    by : (here es k ≡ false → find k es ≡ none) → Stand d.key k → find k (d ∷ es) ≡ none
    by ih (below x) = find_above k d es x ∙ ih (sym (here_below d es k x) ∙ e)
    by ih (same x) =
        let q : true ≡ false = sym (here_stop d es k (omega arith) ∙ eq-eqb d.key k x) ∙ e in
        let z : ◌≡◌ {A = ℕ} 0 1 = cc in
        absurd (omega arith)
    by ih (above x) = find_below k d es x

pub find_found : (k : ℕ) (es : List Change) → here es k ≡ true → (d : Change) (r : List Change)
    → drop (rank es k) es ≡ d ∷ r → find k es ≡ some d.said
find_found k [] e d r q = let a : false ≡ true = sym (here_nil k) ∙ e in let z : ◌≡◌ {A = ℕ} 0 1 = cc in
    absurd (omega arith)
find_found k (f ∷ es) e d r q = by (find_found k es) (stand f.key k)
  where
    by : (here es k ≡ true → (d : Change) (r : List Change) → drop (rank es k) es ≡ d ∷ r → find k es ≡ some d.said)
        → Stand f.key k → find k (f ∷ es) ≡ some d.said
    by ih (below x) =
        let p : rank (f ∷ es) k ≡ _ = rank_below f es k x in
        find_above k f es x ∙ ih (sym (here_below f es k x) ∙ e) d r (rw p at q)
    by ih (same x) =
        let p : rank (f ∷ es) k ≡ 0 = rank_stop f es k (omega arith) in
        let q' : f ∷ es ≡ d ∷ r = rw p at q in
        let w : f ≡ d = cc in
        find_same k f es x ∙ rw w
    by ih (above x) =
        let a : false ≡ true = sym (here_stop f es k (omega arith) ∙ ne_eqb f.key k (omega arith)) ∙ e in
        let z : ◌≡◌ {A = ℕ} 0 1 = cc in
        absurd (omega arith)

-- after an insert
find_insert_same : (c : Change) (s : List Change) → find c.key (insert c s) ≡ some c.said
find_insert_same c [] = rw (insert_nil, find_same c.key c [] refl)
find_insert_same c (d ∷ s) = by (find_insert_same c s) (stand c.key d.key)
  where
    by : find c.key (insert c s) ≡ some c.said → Stand c.key d.key
        → find c.key (insert c (d ∷ s)) ≡ some c.said
    by ih (below x) = rw (insert-below c d s x, find_same c.key c (d ∷ s) refl)
    by ih (same x) = rw (insert_same c d s x, find_same c.key c s refl)
    by ih (above x) = rw (insert-above c d s x, find_above c.key d (insert c s) x) ih

find_insert_other : (k : ℕ) (c : Change) (s : List Change) → (c.key ≡ k → ⊥) → find k (insert c s) ≡ find k s
find_insert_other k c [] n = by (stand c.key k)
  where
    by : Stand c.key k → find k (insert c []) ≡ find k []
    by (below x) = rw (insert_nil, find_above k c [] x)
    by (same x) = absurd (n x)
    by (above x) = rw (insert_nil, find_below k c [] x) (unfold find in refl)
find_insert_other k c (d ∷ s) n =
    by (find_insert_other k c s n) (stand c.key d.key) (stand c.key k) (stand d.key k)
  where
    by : find k (insert c s) ≡ find k s → Stand c.key d.key → Stand c.key k → Stand d.key k
        → find k (insert c (d ∷ s)) ≡ find k (d ∷ s)
    by ih (below x) (same y) z = absurd (n y)
    by ih (same x) (same y) z = absurd (n y)
    by ih (below x) (below y) z = rw (insert-below c d s x, find_above k c (d ∷ s) y)
    by ih (below x) (above y) z =
        let w : k < d.key = omega arith in
        rw (insert-below c d s x, find_below k c (d ∷ s) y, find_below k d s w)
    by ih (same x) (below y) z =
        let w : d.key < k = omega arith in
        rw (insert_same c d s x, find_above k c s y, find_above k d s w)
    by ih (same x) (above y) z =
        let w : k < d.key = omega arith in
        rw (insert_same c d s x, find_below k c s y, find_below k d s w)
    by ih (above x) y (below z) = rw (insert-above c d s x, find_above k d (insert c s) z, find_above k d s z) ih
    by ih (above x) y (same z) = rw (insert-above c d s x, find_same k d (insert c s) z, find_same k d s z)
    by ih (above x) y (above z) = rw (insert-above c d s x, find_below k d (insert c s) z, find_below k d s z)

-- in a fold onto a snapshot: the run's last word, else the snapshot's
pub find_onto : (k : ℕ) (s r : List Change) → find k (fold_onto s r) ≡ or_else (last_of k r) (find k s)
unfolding fold_onto last_of or_else
find_onto k s [] = refl
find_onto k s (c ∷ r) = find_onto k (insert c s) r ∙ go (eqb c.key k) refl (last_of k r)
  where
    go : (t : Bool) → eqb c.key k ≡ t → (o : Option Said)
        → or_else o (find k (insert c s)) ≡ or_else (or_else o (if t then some c.said else none)) (find k s)
    go t q (some x) = refl
    go true q none = let e : c.key ≡ k = eqb-true c.key k q in rw (← e, find_insert_same c s)
    go false q none = find_insert_other k c s (eqb-false c.key k q)

pub or-none : (o : Option Said) → or_else o none ≡ o
unfolding or_else
or-none none = refl
or-none (some x) = refl

or_or : (o p q : Option Said) → or_else (or_else o p) q ≡ or_else o (or_else p q)
unfolding or_else
or_or none p q = refl
or_or (some x) p q = refl

-- in two runs joined: the second's last word, else the first's
pub last-append : (k : ℕ) (r q : List Change) → last_of k (r ++ q) ≡ or_else (last_of k q) (last_of k r)
unfolding last_of
last-append k [] q = sym (or-none (last_of k q))
last-append k (c ∷ r) q =
    ap (λ (o : Option Said). or_else o (if eqb c.key k then some c.said else none)) (last-append k r q)
    ∙ or_or (last_of k q) (last_of k r) (if eqb c.key k then some c.said else none)
