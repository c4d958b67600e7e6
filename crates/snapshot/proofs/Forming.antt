-- Entries in form stay so when they are folded, and what they say of a key is in form.
use Rattle.words.proofs.Prelude.{◌≡◌, refl, ℕ, true, eqb, ltb, Option, none, some, List, [], ◌∷◌}
use mathlib.Core.Option.{or_else}
use Rattle.words.specs.All.{all_of}
use Rattle.words.proofs.Tests.{Stand, below, same, above, stand, either}
use Rattle.words.proofs.Alls.{all_head, all_tail, all_cons}
use Rattle.entry.specs.{Change.Said, Change.Change, Change.change_formed, Change.entries_formed, Reply.reply_formed}
use Rattle.snapshot.specs.Folds.{insert, fold_onto, fold, merge, find, last_of}
use Rattle.snapshot.proofs.Folds.{insert_nil, insert-below, insert_same, insert-above}

pub formed_insert : (c : Change) (r : List Change) → change_formed c ≡ true → entries_formed r ≡ true
    → entries_formed (insert c r) ≡ true
formed_insert c [] a b = rw insert_nil (all_cons change_formed c [] a b)
formed_insert c (d ∷ r) a b = by (formed_insert c r a (all_tail change_formed d r b)) (stand c.key d.key)
  where
    by : entries_formed (insert c r) ≡ true → Stand c.key d.key → entries_formed (insert c (d ∷ r)) ≡ true
    by ih (below x) = rw insert-below (all_cons change_formed c (d ∷ r) a b)
    by ih (same x) = rw insert_same (all_cons change_formed c r a (all_tail change_formed d r b))
    by ih (above x) = rw insert-above (all_cons change_formed d (insert c r) (all_head change_formed d r b) ih)

pub formed_onto : (s r : List Change) → entries_formed s ≡ true → entries_formed r ≡ true
    → entries_formed (fold_onto s r) ≡ true
unfolding fold_onto
formed_onto s [] a b = a
formed_onto s (c ∷ r) a b =
    formed_onto (insert c s) r (formed_insert c s (all_head change_formed c r b) a) (all_tail change_formed c r b)

pub formed_fold : (r : List Change) → entries_formed r ≡ true → entries_formed (fold r) ≡ true
unfolding fold all_of
formed_fold r b = formed_onto [] r refl b

pub formed_merge : (a b : List Change) → entries_formed a ≡ true → entries_formed b ≡ true
    → entries_formed (merge a b) ≡ true
unfolding merge
formed_merge a b p q = formed_onto a b p q

abbrev Fine : Option Said → Type 0
Fine o = reply_formed o ≡ true

pub formed_either : (a b : Option Said) → reply_formed a ≡ true → reply_formed b ≡ true → reply_formed (or_else a b) ≡ true
unfolding or_else
formed_either none b p q = q
formed_either (some x) b p q = p

pub formed_last : (k : ℕ) (r : List Change) → entries_formed r ≡ true → reply_formed (last_of k r) ≡ true
unfolding last_of
formed_last k [] e = refl
formed_last k (c ∷ r) e =
    formed_either (last_of k r) _ (formed_last k r (all_tail change_formed c r e))
    (either Fine (eqb c.key k) (some c.said) none (λ _. all_head change_formed c r e) (λ _. refl))

pub formed_find : (k : ℕ) (s : List Change) → entries_formed s ≡ true → reply_formed (find k s) ≡ true
unfolding find
formed_find k [] e = refl
formed_find k (d ∷ s) e =
    either Fine (ltb d.key k) (find k s) _ (λ _. formed_find k s (all_tail change_formed d s e))
    (λ _. either Fine (eqb d.key k) (some d.said) none (λ _. all_head change_formed d s e) (λ _. refl))
