-- Demand 1: a refused creation leaves every word of the output.
use Rattle.words.proofs.Prelude.{◌≡◌, ℕ, Bool, List}
use Rattle.entry.specs.Guards.{refused}
use Rattle.snapshot.specs.Calls.{written_out}
use Rattle.snapshot.proofs.Refused.{written_keeps}
use Rattle.model.specs.Calls.{query, create}
use Rattle.state_cache.specs.{State.Raw, Run.run}

pub create_keeps : (i : ℕ) (whole : Bool) (r : Raw) (out : List ℕ) (n k : ℕ)
    → (written_out (run (query (create i)) whole r).answer out).answer ≡ refused n k
    → (written_out (run (query (create i)) whole r).answer out).output ≡ out
create_keeps i whole r out n k e = written_keeps (run (query (create i)) whole r).answer out n k e
