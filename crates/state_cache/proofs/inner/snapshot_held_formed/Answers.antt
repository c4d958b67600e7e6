-- `state_cache::inner::snapshot_held_formed` meets its contract: the callee says its own test.
use Rattle.words.proofs.Prelude.{sym, ap, ◌∙◌, Bool, ◌&&◌, ◌||◌, eqb}
use Rattle.state_cache.proofs.{Stands.snapshot_tests}
use Rattle.state_cache.proofs.inner.snapshot_held_formed.Goals as goal

pub returns : goal.returns
returns c =
    ap (λ (t : Bool). t && (c.args.index.snapshot_held || eqb c.args.index.keys 0)) c.snapshot_formed-fine.ensures
    ∙ sym (snapshot_tests c.args.index c.args.snapshot.now)
