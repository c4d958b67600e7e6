-- `state_cache::inner::log_decided` meets its contract: one is taken off where the stop-sign is decided.
use Rattle.words.proofs.Prelude.{arith, ◌≡◌, refl, ap, ◌∙◌, ℕ, ◌-◌, Bool, true, false, if◌then◌else◌}
use Rattle.std.specs.Int.{from_bool}
use Rattle.model.specs.Numbers.{log_decided}
use Rattle.state_cache.proofs.inner.log_decided.Goals as goal

taken_off : (t : Bool) (d : ℕ) → d - from_bool t ≡ (if t then d - 1 else d)
taken_off true d = refl
taken_off false d = omega arith

pub returns : goal.returns
unfolding log_decided
returns c =
    rw (← c.stop_decided.ensures) (c.saturating_sub.ensures
    ∙ ap (λ (k : ℕ). c.args.index.decided.0 - k) c.from.ensures
    ∙ taken_off c.stop_decided.result c.args.index.decided.0)
