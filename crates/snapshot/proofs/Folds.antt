-- The laws of folds and merges, without a word of room.
use Rattle.words.proofs.Prelude.{arith, ◌≡◌, refl, sym, ap, ℕ, ◌≤◌, ◌<◌, true, ltb, eq-eqb, ne_eqb, lt-ltb, le-ltb}
use Rattle.words.proofs.Prelude.{ltb-true, List, [], ◌∷◌, ◌++◌}
use Rattle.entry.specs.Change.{Change}
use Rattle.snapshot.specs.Folds.{insert, fold_onto, fold, merge, climbs, rising}
use Rattle.words.proofs.Tests.{Stand, below, same, above, stand, and_left, and_right}

-- insert, by how the two keys stand
module _ (c d : Change) (s : List Change) where
  pub insert-below : c.key < d.key → insert c (d ∷ s) ≡ c ∷ d ∷ s
  unfolding insert
  insert-below h = rw (lt-ltb c.key d.key h)

  pub insert_same : c.key ≡ d.key → insert c (d ∷ s) ≡ c ∷ s
  unfolding insert
  insert_same h = rw (le-ltb c.key d.key (omega arith), eq-eqb c.key d.key h)

  pub insert-above : d.key < c.key → insert c (d ∷ s) ≡ d ∷ insert c s
  unfolding insert
  insert-above h = rw (le-ltb c.key d.key (omega arith), ne_eqb c.key d.key (omega arith))

pub insert_nil : (c : Change) → insert c [] ≡ c ∷ []
unfolding insert
insert_nil c = refl

-- two changes of different keys may change places
pub insert_swap : (a b : Change) (s : List Change) → a.key < b.key → insert a (insert b s) ≡ insert b (insert a s)
insert_swap a b [] h = simp (insert_nil, insert-below, insert-above)
insert_swap a b (d ∷ s) h = by (insert_swap a b s h) (stand b.key d.key) (stand a.key d.key)
  where
    by : insert a (insert b s) ≡ insert b (insert a s) → Stand b.key d.key → Stand a.key d.key
        → insert a (insert b (d ∷ s)) ≡ insert b (insert a (d ∷ s))
    by ih (below x) (below y) = simp (insert-below, insert-above)
    by ih (below x) (same y) = absurd (omega arith)
    by ih (below x) (above y) = absurd (omega arith)
    by ih (same x) (below y) = simp (insert_same, insert-below, insert-above)
    by ih (same x) (same y) = absurd (omega arith)
    by ih (same x) (above y) = absurd (omega arith)
    by ih (above x) (below y) = simp (insert-below, insert-above)
    by ih (above x) (same y) = simp (insert_same, insert-above)
    by ih (above x) (above y) = simp (insert-above, ih)

-- a later change of the same key covers an earlier one
pub insert_cover : (a b : Change) (s : List Change) → a.key ≡ b.key → insert a (insert b s) ≡ insert a s
insert_cover a b [] h = simp (insert_nil, insert_same)
insert_cover a b (d ∷ s) h = by (insert_cover a b s h) (stand b.key d.key)
  where
    by : insert a (insert b s) ≡ insert a s → Stand b.key d.key → insert a (insert b (d ∷ s)) ≡ insert a (d ∷ s)
    by ih (below x) = let y : a.key < d.key = omega arith in simp (insert-below, insert_same)
    by ih (same x) = let y : a.key ≡ d.key = omega arith in simp insert_same
    by ih (above x) = let y : d.key < a.key = omega arith in simp (insert-above, ih)

-- ascending runs
pub climbs_head : (k : ℕ) (d : Change) (s : List Change) → climbs k (d ∷ s) ≡ true → k < d.key
unfolding climbs
climbs_head k d s e = ltb-true k d.key (and_left (ltb k d.key) (climbs d.key s) e)

pub climbs_tail : (k : ℕ) (d : Change) (s : List Change) → climbs k (d ∷ s) ≡ true → climbs d.key s ≡ true
unfolding climbs
climbs_tail k d s e = and_right (ltb k d.key) (climbs d.key s) e

pub climbs_cons : (k : ℕ) (d : Change) (s : List Change) → k < d.key → climbs d.key s ≡ true
    → climbs k (d ∷ s) ≡ true
unfolding climbs
climbs_cons k d s h e = rw (lt-ltb k d.key h) e

pub climbs_nil : (k : ℕ) → climbs k [] ≡ true
unfolding climbs
climbs_nil k = refl

pub climbs_down : (j k : ℕ) (s : List Change) → j ≤ k → climbs k s ≡ true → climbs j s ≡ true
climbs_down j k [] h e = climbs_nil j
climbs_down j k (d ∷ s) h e =
    let x : k < d.key = climbs_head k d s e in
    climbs_cons j d s (omega arith) (climbs_tail k d s e)

pub climbs_insert : (k : ℕ) (c : Change) (s : List Change) → k < c.key → climbs k s ≡ true
    → climbs k (insert c s) ≡ true
climbs_insert k c [] h e = rw insert_nil (climbs_cons k c [] h (climbs_nil c.key))
climbs_insert k c (d ∷ s) h e = by (λ g. climbs_insert d.key c s g (climbs_tail k d s e)) (stand c.key d.key)
  where
    by : (d.key < c.key → climbs d.key (insert c s) ≡ true) → Stand c.key d.key
        → climbs k (insert c (d ∷ s)) ≡ true
    by ih (below x) = rw (insert-below c d s x)
        (climbs_cons k c (d ∷ s) h (climbs_cons c.key d s x (climbs_tail k d s e)))
    by ih (same x) = rw (insert_same c d s x)
        (climbs_cons k c s h (climbs_down c.key d.key s (omega arith) (climbs_tail k d s e)))
    by ih (above x) = rw (insert-above c d s x) (climbs_cons k d (insert c s) (climbs_head k d s e) (ih x))

pub rising_climbs : (d : Change) (s : List Change) → rising (d ∷ s) ≡ true → climbs d.key s ≡ true
unfolding rising
rising_climbs d s e = e

pub rising_insert : (c : Change) (s : List Change) → rising s ≡ true → rising (insert c s) ≡ true
unfolding rising
rising_insert c [] e = rw insert_nil (climbs_nil c.key)
rising_insert c (d ∷ s) e = by (stand c.key d.key)
  where
    by : Stand c.key d.key → rising (insert c (d ∷ s)) ≡ true
    by (below x) = rw (insert-below c d s x) (climbs_cons c.key d s x e)
    by (same x) = rw (insert_same c d s x) (climbs_down c.key d.key s (omega arith) e)
    by (above x) = rw (insert-above c d s x) (climbs_insert d.key c s x e)

pub rising_onto : (s r : List Change) → rising s ≡ true → rising (fold_onto s r) ≡ true
unfolding fold_onto
rising_onto s [] e = e
rising_onto s (c ∷ r) e = rising_onto (insert c s) r (rising_insert c s e)

pub rising_fold : (r : List Change) → rising (fold r) ≡ true
unfolding fold rising
rising_fold r = rising_onto [] r refl

-- a change below a whole ascending run may come before it or after it
pub onto_after : (c : Change) (s t : List Change) → climbs c.key t ≡ true
    → fold_onto (insert c s) t ≡ insert c (fold_onto s t)
unfolding fold_onto
onto_after c s [] e = refl
onto_after c s (d ∷ t) e =
    let x : c.key < d.key = climbs_head c.key d t e in
    rw (← insert_swap c d s x)
    (onto_after c (insert d s) t (climbs_down c.key d.key t (omega arith) (climbs_tail c.key d t e)))

pub tail_rises : (k : ℕ) (t : List Change) → climbs k t ≡ true → rising t ≡ true
unfolding rising
tail_rises k [] g = refl
tail_rises k (f ∷ t) g = climbs_tail k f t g

-- the law from which the rest follows: to put a change into an ascending run and fold that is to fold the run and put
-- the change last
pub onto_insert : (c : Change) (s t : List Change) → rising t ≡ true → fold_onto s (insert c t) ≡ insert c (fold_onto s t)
unfolding rising fold_onto
onto_insert c s [] e = rw insert_nil
onto_insert c s (d ∷ t) e = by (onto_insert c (insert d s) t (tail_rises d.key t e)) (stand c.key d.key)
  where
    by : fold_onto (insert d s) (insert c t) ≡ insert c (fold_onto (insert d s) t) → Stand c.key d.key
        → fold_onto s (insert c (d ∷ t)) ≡ insert c (fold_onto s (d ∷ t))
    by ih (below x) = rw (insert-below c d t x) (onto_after c s (d ∷ t) (climbs_cons c.key d t x e))
    by ih (same x) =
        rw (insert_same c d t x, ← insert_cover c d s x)
        (onto_after c (insert d s) t (climbs_down c.key d.key t (omega arith) e))
    by ih (above x) = rw (insert-above c d t x) ih

-- runs joined
pub onto_append : (s r q : List Change) → fold_onto s (r ++ q) ≡ fold_onto (fold_onto s r) q
unfolding fold_onto
onto_append s [] q = refl
onto_append s (c ∷ r) q = onto_append (insert c s) r q

pub onto_onto : (a b c : List Change) → rising b ≡ true → fold_onto a (fold_onto b c) ≡ fold_onto (fold_onto a b) c
unfolding fold_onto
onto_onto a b [] e = refl
onto_onto a b (x ∷ c) e = rw (onto_onto a (insert x b) c (rising_insert x b e), onto_insert x a b e)

pub merge_assoc : (a b c : List Change) → rising b ≡ true → merge (merge a b) c ≡ merge a (merge b c)
unfolding merge
merge_assoc a b c e = sym (onto_onto a b c e)

-- a run merged, and its fold merged, are one
pub merge_fold : (a r : List Change) → merge a (fold r) ≡ merge a r
unfolding merge fold rising fold_onto
merge_fold a r = onto_onto a [] r refl

pub fold-append : (r q : List Change) → fold (r ++ q) ≡ merge (fold r) (fold q)
unfolding fold
fold-append r q = rw merge_fold (unfold merge in onto_append [] r q)

pub merge_nil : (a : List Change) → merge a [] ≡ a
unfolding merge fold_onto
merge_nil a = refl

onto_under : (d : Change) (s t : List Change) → climbs d.key t ≡ true → fold_onto (d ∷ s) t ≡ d ∷ fold_onto s t
unfolding fold_onto
onto_under d s [] e = refl
onto_under d s (c ∷ t) e =
    let x : d.key < c.key = climbs_head d.key c t e in
    rw (insert-above c d s x)
    (onto_under d (insert c s) t (climbs_down d.key c.key t (omega arith) (climbs_tail d.key c t e)))

pub nil_merge : (a : List Change) → rising a ≡ true → merge [] a ≡ a
unfolding merge fold_onto rising
nil_merge [] e = refl
nil_merge (d ∷ a) e = rw (insert_nil, onto_under d [] a e)
    (ap {B = List Change} (λ r. d ∷ r) (nil_merge a (tail_rises d.key a e)))
