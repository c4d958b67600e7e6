-- The calls of module 2 on lent words. "Fold, merge: 11, 8. Find: 11." "No refusal changes anything lent"; "a written
-- snapshot fills its whole slice".
use Rattle.std.specs.Prelude.{ℕ, Bool, ◌&&◌, not, List, [], ◌∷◌, ltb, eqb, length}
use Rattle.std.specs.Prelude.{Option as Optional, Result}
use Rattle.std.proofs.Math.Option.{Option}
use Rattle.entry.specs.Limits.{key_room, snapshot_words}
use Rattle.entry.specs.Change.{Said, Change, entries_of, entries_in, slice_formed, stored, stored_in}
use Rattle.entry.specs.Guards.{Guard, guard, Verdict, first, Answer, refused, replied}
use Rattle.entry.specs.Guards.{settle, said_by}
use Rattle.snapshot.specs.Folds.{fold, merge, rising, find}
use Rattle.entry.specs.Reply.{known_is}
use Rattle.entry.specs.declared.Refusal.{Refusal}
use Rattle.entry.specs.declared.Said.{Said as CodeSaid}

-- a lent snapshot in form: its slice's length, its places and zeros, and the order of its n keys
unfoldable pub snapshot_formed : ℕ → List ℕ → Bool
snapshot_formed n ws = stored_in snapshot_words n ws && rising (entries_of n ws)

-- what a fold or a merge comes to: how many keys, or a refusal; and the output slice after it
pub record Outcome : Type 0 where
  pub answer : Answer ℕ
  pub output : List ℕ

abbrev pub outcome : Answer ℕ → List ℕ → Outcome
outcome a out = record { answer = a; output = out }

-- what a call that replies a snapshot comes to on a lent output slice: "a written snapshot fills its whole slice",
-- and no refusal changes it
abbrev pub written_out : Answer (List Change) → List ℕ → Outcome
written_out (replied s) out = outcome (replied (length s)) (stored snapshot_words s)
written_out (refused n k) out = outcome (refused n k) out

abbrev pub written_by : Verdict → List Change → List ℕ → Outcome
written_by v s out = written_out (settle v s) out

-- "the fold has over 512 keys"
abbrev pub fold_guards : List Change → List Guard
fold_guards s = guard 8 0 (ltb key_room (length s)) ∷ []

unfoldable pub fold_call : List ℕ → List ℕ → Outcome
fold_call entries out =
    let s : List Change = fold (entries_in entries) in
    written_by (first (guard 11 0 (not (slice_formed entries && eqb (length out) snapshot_words)) ∷ fold_guards s)) s out

unfoldable pub merge_call : List ℕ → ℕ → List ℕ → ℕ → List ℕ → Outcome
merge_call a n b m out =
    let s : List Change = merge (entries_of n a) (entries_of m b) in
    let fine : Bool = snapshot_formed n a && (snapshot_formed m b && eqb (length out) snapshot_words) in
    written_by (first (guard 11 0 (not fine) ∷ fold_guards s)) s out

-- document 02: "must reply place, removed or unknown"; none is unknown
unfoldable pub find_call : List ℕ → ℕ → ℕ → Answer (Option Said)
find_call ws n k = settle (first (guard 11 0 (not (snapshot_formed n ws)) ∷ [])) (find k (entries_of n ws))

-- what the replies say
abbrev pub folded : Result ℕ Refusal → Answer ℕ
folded r = said_by (λ (n : ℕ). n) r

abbrev pub found : Result (Optional CodeSaid) Refusal → Answer (Option Said)
found r = said_by known_is r

-- one call after another, on the snapshot that the first wrote; where the first is refused, so is the whole
abbrev pub afterwards : Outcome → List ℕ → (List ℕ → ℕ → Outcome) → Outcome
afterwards o out next = elim o.answer [ refused n k ↦ outcome (refused n k) out | replied n ↦ next o.output n ]
