-- What a diff's reply says in the model's words, and the output slice after it.
use Rattle.std.specs.Prelude.{ℕ, List, Result}
use Rattle.std.proofs.Math.Option.{none, some}
use Rattle.entry.specs.Limits.{snapshot_words}
use Rattle.entry.specs.Change.{entries_of, stored}
use Rattle.entry.specs.Guards.{Answer, refused, replied, said_by}
use Rattle.entry.specs.declared.Refusal.{Refusal}
use Rattle.model.specs.Diff.{Given, plain, complete, delta, snapshot_in}
use Rattle.model.specs.Calls.{Diff as Reply}
use Rattle.diff.specs.declared.Diff.{Diff}
use Rattle.diff.specs.declared.Diff.TheVariants.{Nothing, Complete, Delta}

abbrev pub reply : Given → ℕ → Reply
reply g i = record { given = g; upto = i }

-- the snapshot is the one in the output slice
abbrev pub told : List ℕ → Diff → Reply
told out (Nothing i) = reply plain i.0
told out (Complete n i) = reply (complete (entries_of n out)) i.0
told out (Delta n i) = reply (delta (entries_of n out)) i.0

abbrev pub diff_said : List ℕ → Result Diff Refusal → Answer Reply
diff_said out r = said_by (told out) r

-- "a written snapshot fills its whole slice"; a refusal changes nothing, and none "leaves output slices unchanged"
abbrev pub out_after : Answer Reply → List ℕ → List ℕ
out_after (replied d) out = elim (snapshot_in d.given) [ none ↦ out | some s ↦ stored snapshot_words s ]
out_after (refused n k) out = out
