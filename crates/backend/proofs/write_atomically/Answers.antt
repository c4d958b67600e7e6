-- `backend::write_atomically` meets its contract: the lent operations come to what the list made of them does.
use Rattle.words.proofs.Prelude.{ap, ◌∙◌}
use Rattle.model.specs.Calls.{write}
use Rattle.state_cache.specs.{State.raw, Run.run}
use Rattle.backend.specs.Ops.{ops_in, lent_of, whole_list}
use Rattle.backend.specs.declared.OpList.{OpList}
use Rattle.backend.proofs.Gathered.{gathered_run}
use Rattle.backend.proofs.write_atomically.Goals as goal

pub returns : goal.returns
returns c =
    let r = raw c.args.index c.args.log.now c.args.snapshot.now in
    c.write_list.ensures
    ∙ ap (λ (l : OpList). run (write (lent_of c.args.lent c.args.entries.now c.args.incoming.now) (ops_in l))
    (whole_list c.args.lent c.args.entries.now c.args.incoming.now l) r) c.gather-list.ensures
    ∙ gathered_run c.args.lent c.args.entries.now c.args.incoming.now c.args.ops.now r
