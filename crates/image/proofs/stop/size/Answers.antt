-- `image::stop::size` meets its contract.
use Rattle.words.proofs.Prelude.{arith}
use Rattle.std.proofs.lemmas.Option.{MatchOption-at_some}
use Rattle.image.proofs.RecLaws.{Counts, counts}
use Rattle.image.proofs.stop.size.Goals as goal
use Rattle.image.proofs.stop.size.Goals.{In-Some}

few : (c : In-Some) → Counts c.in-Some.stop.node_count c.in-Some.stop.metadata_len
few c =
    counts _ (MatchOption-at_some _ _ _ c.in-Some.is c.requires)

pub overflow_mul-result : goal.overflow_mul-result
overflow_mul-result c =
    omega (arith, (few (goal.at.overflow_mul-result c).In-Some).few)

pub overflow_add-result : goal.overflow_add-result
overflow_add-result c =
    omega (arith, (few (goal.at.overflow_add-result c).In-Some).few)

pub overflow_add-result-2 : goal.overflow_add-result-2
overflow_add-result-2 c =
    let x = few (goal.at.overflow_add-result-2 c).In-Some in omega (arith, x.few, x.short)
