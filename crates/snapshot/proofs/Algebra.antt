-- Demand 3, its first sentence, for snapshots without words: folds and merges, at any capacity.
use Rattle.words.proofs.Prelude.{arith, ◌≡◌, sym, ap, ◌∙◌, ℕ, ◌≤◌, ◌<◌, true, le-leb, lt-leb, Option, none, some}
use Rattle.words.proofs.Prelude.{List, [], ◌++◌, length}
use mathlib.Core.Option.{bind, or_else}
use Rattle.words.proofs.Tests.{Reach, reached, short, reach}
use Rattle.entry.specs.Change.{Said, removed, Change}
use Rattle.snapshot.specs.Folds.{fold, merge, rising, find, last_of, within}
use Rattle.snapshot.proofs.{Folds.rising_onto, Folds.rising_fold, Folds.fold-append, Folds.merge_assoc as assoc}
use Rattle.snapshot.proofs.{Folds.merge_nil, Folds.nil_merge, Finds.find_onto, Finds.or-none, Room.merge_first}
use Rattle.snapshot.proofs.{Room.merge_second}

-- folding two runs joined is merging their folds
pub fold_join : (r q : List Change) → fold (r ++ q) ≡ merge (fold r) (fold q)
fold_join r q = fold-append r q

-- merge is associative, and the empty snapshot neutral on both sides
pub merge_assoc : (a b c : List Change) → rising b ≡ true → merge (merge a b) c ≡ merge a (merge b c)
merge_assoc a b c up = assoc a b c up

pub merge_empty : (a : List Change) → merge a [] ≡ a
merge_empty a = merge_nil a

pub empty_merge : (a : List Change) → rising a ≡ true → merge [] a ≡ a
empty_merge a up = nil_merge a up

-- keys ascend as numbers; the last entry's word is found; a removal is found as one; of a merge the second's word
pub fold_rises : (r : List Change) → rising (fold r) ≡ true
fold_rises r = rising_fold r

pub merge_rises : (a b : List Change) → rising a ≡ true → rising (merge a b) ≡ true
unfolding merge
merge_rises a b up = rising_onto a b up

pub fold_last : (k : ℕ) (r : List Change) → find k (fold r) ≡ last_of k r
unfolding fold find
fold_last k r = find_onto k [] r ∙ or-none (last_of k r)

pub removal_stays : (k : ℕ) (r : List Change) → last_of k r ≡ some removed → find k (fold r) ≡ some removed
removal_stays k r e = fold_last k r ∙ e

pub merge_wins : (k : ℕ) (a b : List Change) → rising b ≡ true → find k (merge a b) ≡ or_else (find k b) (find k a)
unfolding merge fold
merge_wins k a b up =
    find_onto k a b
    ∙ ap (λ (o : Option Said). or_else o (find k a)) (sym (fold_last k b) ∙ ap (find k) (nil_merge b up))

-- Refused for room on one side exactly if on the other, and equal where neither is: `within room` is none where it is
-- refused.
pub within_fits : (room : ℕ) (s : List Change) → length s ≤ room → within room s ≡ some s
unfolding within
within_fits room s h = rw (le-leb (length s) room h)

pub within_none : (room : ℕ) (s : List Change) → room < length s → within room s ≡ none
unfolding within
within_none room s h = rw (lt-leb (length s) room h)

pub fold_join_within : (room : ℕ) (r q : List Change)
    → within room (fold (r ++ q))
    ≡ bind (within room (fold r)) (λ a. bind (within room (fold q)) (λ b. within room (merge a b)))
unfolding bind
fold_join_within room r q = by (reach (length (fold r)) room) (reach (length (fold q)) room)
  where
    one : length (fold r) ≤ length (merge (fold r) (fold q))
    one = merge_first (fold r) (fold q)

    two : length (fold q) ≤ length (merge (fold r) (fold q))
    two = merge_second (fold r) (fold q) (rising_fold q)

    by : Reach (length (fold r)) room → Reach (length (fold q)) room
        → within room (fold (r ++ q))
        ≡ bind (within room (fold r)) (λ a. bind (within room (fold q)) (λ b. within room (merge a b)))
    by (reached g) (reached h) = simp (fold-append, within_fits)
    by (reached g) (short h) =
        let k : room < length (merge (fold r) (fold q)) = omega (arith, two) in
        simp (fold-append, within_none, within_fits)
    by (short g) h =
        let k : room < length (merge (fold r) (fold q)) = omega (arith, one) in simp (fold-append, within_none)

pub merge_assoc_within : (room : ℕ) (a b c : List Change) → rising b ≡ true
    → bind (within room (merge a b)) (λ s. within room (merge s c))
    ≡ bind (within room (merge b c)) (λ s. within room (merge a s))
unfolding bind
merge_assoc_within room a b c up = by (reach (length (merge a b)) room) (reach (length (merge b c)) room)
  where
    one : length (merge a b) ≤ length (merge (merge a b) c)
    one = merge_first (merge a b) c

    two : length (merge b c) ≤ length (merge a (merge b c))
    two = merge_second a (merge b c) (merge_rises b c up)

    by : Reach (length (merge a b)) room → Reach (length (merge b c)) room
        → bind (within room (merge a b)) (λ s. within room (merge s c))
        ≡ bind (within room (merge b c)) (λ s. within room (merge a s))
    by (reached f) (reached g) = simp (within_fits room (merge a b), within_fits room (merge b c), assoc a b c)
    by (reached f) (short g) =
        let k : room < length (merge (merge a b) c) = rw (assoc a b c up) (omega (arith, two)) in
        simp (within_fits room (merge a b), within_none room (merge b c), within_none room (merge (merge a b) c))
    by (short f) (reached g) =
        let k : room < length (merge a (merge b c)) = rw (← assoc a b c up) (omega (arith, one)) in
        simp (within_none room (merge a b), within_fits room (merge b c), within_none room (merge a (merge b c)))
    by (short f) (short g) = simp (within_none room (merge a b), within_none room (merge b c))
