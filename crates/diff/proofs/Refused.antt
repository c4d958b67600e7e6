-- Demand 1: a refused diff leaves every word of the output.
use Rattle.words.proofs.Prelude.{◌≡◌, ap, ℕ, Bool, List}
use Rattle.entry.specs.Guards.{Answer, refused}
use Rattle.model.specs.Calls.{Diff as Reply, query, diff}
use Rattle.state_cache.specs.{State.Raw, Run.run}
use Rattle.diff.specs.Replies.{out_after}

pub diff_keeps : (i : ℕ) (whole : Bool) (r : Raw) (out : List ℕ) (n k : ℕ)
    → (run (query (diff i)) whole r).answer ≡ refused n k
    → out_after (run (query (diff i)) whole r).answer out ≡ out
diff_keeps i whole r out n k e = ap (λ (a : Answer Reply). out_after a out) e
