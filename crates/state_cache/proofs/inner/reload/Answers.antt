-- `state_cache::inner::reload` meets its contract: the batch's words are cut off, and its count is zero.
use Rattle.words.proofs.Prelude.{arith}
use Rattle.state_cache.specs.State.{raw}
use Rattle.state_cache.proofs.{Small.sound_small, Changes.reload_runs}
use Rattle.state_cache.proofs.inner.reload.Goals as goal

pub cut_out-requires : goal.cut_out-requires
cut_out-requires c = record {
  cut_bound = omega (arith, c.requires.numbers.room);
  used_in_bounds = omega (arith, c.requires.log.fits, c.requires.log.long);
  s_value = c.requires.log.zeros;
}

pub accepted-requires : goal.accepted-requires
accepted-requires c =
    let s = sound_small _ c.requires.numbers in
    record { few = s.few; waiting = omega arith; low = s.low }

pub returns : goal.returns
returns c =
    reload_runs (raw c.args.index c.args.log.now c.args.snapshot.now) c.requires.okay
    c.cut_out.new.s c.cut_out.ensures c.accepted.result c.accepted.ensures
