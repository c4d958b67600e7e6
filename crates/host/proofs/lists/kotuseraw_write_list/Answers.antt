use Rattle.words.proofs.Prelude.{ap, ◌∙◌}
use Rattle.model.specs.Calls.{write}
use Rattle.state_cache.specs.{State.raw, Run.run}
use Rattle.backend.specs.{Ops.ops_in, Ops.lent_of, Ops.whole_list, declared.OpList.OpList}
use Rattle.host.proofs.{Carry.carry_settled}
use Rattle.host.proofs.lists.kotuseraw_write_list.Goals as goal

pub returns : goal.returns
returns c =
    carry_settled _ _ c.settled.ensures
    (c.write_list.ensures
    ∙ ap (λ (l : OpList). run (write (lent_of c.args.lent c.args.entries.now c.args.incoming.now) (ops_in l)) (whole_list
    c.args.lent c.args.entries.now c.args.incoming.now l) (raw c.args.index c.args.log.now c.args.snapshot.now))
    c.list_of-list.ensures)
