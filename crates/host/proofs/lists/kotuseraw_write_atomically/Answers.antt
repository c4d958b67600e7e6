use Rattle.words.proofs.Prelude.{ap, ◌∙◌, ℕ, List, map, take}
use Rattle.model.specs.Calls.{write}
use Rattle.state_cache.specs.{State.raw, Run.Outcome, Run.run}
use Rattle.backend.specs.{Ops.op_of, Ops.lent_of, Ops.whole_lent, declared.Op.Op}
use Rattle.host.proofs.{Carry.carry_settled}
use Rattle.host.specs.{Plain.nothing, Requests.count_at}
use Rattle.host.proofs.lists.kotuseraw_write_atomically.Goals as goal

pub returns : goal.returns
returns c =
    let asks : ℕ → List Op → Outcome (Unit {0}) = λ n os. run
    (write (lent_of c.args.lent c.args.entries.now c.args.incoming.now) (map op_of (take n os)))
    (whole_lent c.args.lent c.args.entries.now c.args.incoming.now)
    (raw c.args.index c.args.log.now c.args.snapshot.now) in
    carry_settled _ _ c.settled.ensures
    (c.write_atomically.ensures
    ∙ ap (λ (n : ℕ). asks n c.nine_of-nine.result)
    c.counted_in-n.ensures.0
    ∙ ap (asks (count_at c.args.ops))
    c.nine_of-nine.ensures)
