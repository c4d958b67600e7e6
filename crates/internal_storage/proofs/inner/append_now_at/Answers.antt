-- `internal_storage::inner::append_now_at` meets its contract: the first refusal, or the entries put before the batch.
use Rattle.words.proofs.Prelude.{arith}
use Rattle.entry.proofs.RefusalLaws.{passed_up}
use Rattle.state_cache.specs.State.{raw}
use Rattle.state_cache.proofs.Small.{sound_small}
use Rattle.internal_storage.proofs.Effects.{now_run, now_refused, append_room}
use Rattle.internal_storage.proofs.inner.append_now_at.Goals as goal

pub returns-in_err-check_append : goal.returns-in_err-check_append
returns-in_err-check_append c =
    rw (passed_up c.from_residual.result _ c.from_residual.ensures.1)
    (now_refused (raw c.args.index.now c.args.log.now c.args.snapshot.now) c.requires.ready.okay c.args.n c.args.entries.now
    c.requires.fine _ _ c.in_err-check_append.ensures)

pub splice-requires-clause-insert_in_bounds : goal.splice-requires-clause-insert_in_bounds
splice-requires-clause-insert_in_bounds c =
    omega (arith, append_room _ _ c.in_ok-check_append.ensures, c.requires.ready.log.long, c.requires.whole)

pub accepted-requires : goal.accepted-requires
accepted-requires c =
    let s = sound_small _ c.requires.ready.numbers in
    record { few = omega (arith, append_room _ _ c.in_ok-check_append.ensures); waiting = s.waiting; low = s.low }

pub returns : goal.returns
returns c =
    now_run (raw c.args.index.now c.args.log.now c.args.snapshot.now) c.requires.ready.okay c.args.n c.args.entries.now
    c.splice.new.s c.requires.whole c.splice.ensures c.requires.fine c.in_ok-check_append.ensures c.accepted.result
    c.accepted.ensures
