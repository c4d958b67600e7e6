-- What a call comes to that looks at numbers alone, by the tests as the code takes them.
use Rattle.words.proofs.Prelude.{◌≡◌, ap, ℕ, List}
use Rattle.entry.specs.Guards.{Guard, Verdict, passes, refuses, first, refused, replied, settle}
use Rattle.entry.proofs.GuardLaws.{Finds, found}
use Rattle.state_cache.specs.declared.IndexRecord.{IndexRecord}
use Rattle.internal_storage.specs.Inner.{indexed, by_numbers}

pub settles : {A : Type 0} {gs : List Guard} {y : A} → Finds gs passes → replied y ≡ settle (first gs) y
settles {A} {gs} {y} f = ap (λ (v : Verdict). settle v y) (found f)

pub refuses_by : {A : Type 0} {gs : List Guard} {n k : ℕ} (y : A) → Finds gs (refuses n k)
    → refused n k ≡ settle (first gs) y
refuses_by y f = ap (λ (v : Verdict). settle v y) (found f)

-- the same of one on the record where it stands
pub moves : {A : Type 0} {gs : List Guard} {y : A} {next : IndexRecord} (x : IndexRecord) → Finds gs passes
    → indexed (replied y) next ≡ by_numbers (first gs) y next x
moves {A} {gs} {y} {next} x f = ap (λ (v : Verdict). by_numbers v y next x) (found f)

pub stays : {A : Type 0} {gs : List Guard} {n k : ℕ} {x : IndexRecord} (y : A) (next : IndexRecord)
    → Finds gs (refuses n k) → indexed (refused n k) x ≡ by_numbers (first gs) y next x
stays {A} {gs} {n} {k} {x} y next f = ap (λ (v : Verdict). by_numbers v y next x) (found f)
