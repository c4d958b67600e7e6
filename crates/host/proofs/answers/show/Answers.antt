use Rattle.words.proofs.Prelude.{sym}
use Rattle.state_cache.specs.State.{Raw}
use Rattle.state_cache.proofs.Stands.{given_by}
use Rattle.reading.proofs.Showing.{lent_count}
use Rattle.host.proofs.answers.show.Goals as goal

pub returns : goal.returns
returns c =
    λ (x : Raw).
    let r = c.args.r in
    sym (rw (lent_count x.log r.first r.count, given_by r.stop x.index.stop))
