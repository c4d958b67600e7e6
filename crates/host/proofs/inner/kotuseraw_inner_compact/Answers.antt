use Rattle.words.proofs.Prelude.{ap₂, ◌∙◌, ℕ, true, Option}
use Rattle.entry.specs.declared.Compaction.{Compaction}
use Rattle.model.specs.Calls.{compact}
use Rattle.state_cache.specs.{State.raw, Run.run}
use Rattle.host.proofs.{Asking.asked_upto, Carry.carry_settled}
use Rattle.host.proofs.inner.kotuseraw_inner_compact.Goals as goal

pub returns : goal.returns
returns c =
    carry_settled _ _ c.settled.ensures
    (c.compact_at.ensures
    ∙ ap₂ (λ (w : Compaction) (v : Option ℕ). run (compact w v) true
    (raw c.args.index c.args.log.now c.args.snapshot.now)) c.what-what.ensures
    (asked_upto c.args.given c.args.idx c.then_some.ensures))
