-- Demand 1: a refused fold or merge leaves every word of the output.
use Rattle.words.proofs.Prelude.{arith, ◌≡◌, refl, ℕ, ◌&&◌, not, eqb, List, ◌∷◌, length}
use Rattle.entry.specs.{Limits.snapshot_words, Change.Change, Change.entries_of, Change.entries_in, Change.slice_formed}
use Rattle.entry.specs.{Guards.guard, Guards.first, Guards.Answer, Guards.refused, Guards.replied, Guards.settle}
use Rattle.snapshot.specs.Folds.{fold, merge}
use Rattle.snapshot.specs.Calls.{snapshot_formed, written_out, fold_guards, fold_call, merge_call}

pub written_keeps : (a : Answer (List Change)) (out : List ℕ) (n k : ℕ) → (written_out a out).answer ≡ refused n k
    → (written_out a out).output ≡ out
written_keeps (replied s) out n k e = let z : ◌≡◌ {A = ℕ} 0 1 = cc in absurd (omega arith)
written_keeps (refused m j) out n k e = refl

pub fold_keeps : (entries out : List ℕ) (n k : ℕ) → (fold_call entries out).answer ≡ refused n k
    → (fold_call entries out).output ≡ out
unfolding fold_call
fold_keeps entries out n k e =
    let s : List Change = fold (entries_in entries) in
    written_keeps (settle (first
    (guard 11 0 (not (slice_formed entries && eqb (length out) snapshot_words)) ∷ fold_guards s)) s) out n k e

pub merge_keeps : (a : List ℕ) (i : ℕ) (b : List ℕ) (j : ℕ) (out : List ℕ) (n k : ℕ)
    → (merge_call a i b j out).answer ≡ refused n k → (merge_call a i b j out).output ≡ out
unfolding merge_call
merge_keeps a i b j out n k e =
    let s : List Change = merge (entries_of i a) (entries_of j b) in
    written_keeps (settle (first (guard 11 0 (not (snapshot_formed i a
    && (snapshot_formed j b && eqb (length out) snapshot_words))) ∷ fold_guards s)) s) out n k e
