-- How a call goes through `run`: the ways out in their order, each written once for all calls.
use Rattle.words.proofs.Prelude.{◌≡◌, refl, sym, ap, ◌∙◌, ℕ, Bool, true, false, not, ◌∷◌}
use Rattle.entry.specs.Guards.{guard, Verdict, passes, refuses, first, refused, replied}
use Rattle.entry.proofs.GuardLaws.{first_refuses, first_goes_on}
use Rattle.model.specs.{Numbers.Numbers, Log.Log, Log.well_formed, Calls.Call, Calls.Reply, Calls.malformed}
use Rattle.model.specs.{Calls.further, Calls.guards, Calls.effect, Calls.reply_of, Calls.after, Calls.state_after}
use Rattle.model.proofs.Keeps.{call_keeps}
use Rattle.state_cache.specs.State.{Raw, numbers_in, formed, log_of, raw_of}
use Rattle.state_cache.specs.Run.{Outcome, outcome, chosen, verdict_on, run, of_numbers}
use Rattle.state_cache.proofs.Stands.{Stands, stands_raw, log_formed, raw_formed, log_of_raw}

-- refusal 12
pub ill_formed : (c : Call) (whole : Bool) (r : Raw) → formed r ≡ false → outcome (refused 12 0) r ≡ run c whole r
unfolding run verdict_on first
ill_formed c whole r e = rw e

-- refusal 11 where the words are no call
pub not_whole : (c : Call) (whole : Bool) (r : Raw) → formed r ≡ true → whole ≡ false
    → outcome (refused 11 0) r ≡ run c whole r
unfolding run verdict_on first
not_whole c whole r ok e = rw (ok, e)

-- the verdict on a well-formed log: refusal 11, then the call's own
verdict : (c : Call) (s : Log) → well_formed s ≡ true
    → first (guards c s) ≡ first (guard 11 0 (malformed c) ∷ further c s)
unfolding guards
verdict c s w = first_goes_on 12 0 (not (well_formed s)) (guard 11 0 (malformed c) ∷ further c s) (rw w)

module _ (c : Call) (r : Raw) (ok : formed r ≡ true) where
  -- what it comes to by the verdict on the log
  at : Verdict → Outcome (Reply c)
  at v = chosen v (reply_of c (log_of r)) (raw_of (effect c (log_of r))) r

  pub on_log : verdict_on c true r ≡ first (guards c (log_of r))
  unfolding verdict_on
  on_log =
      first_goes_on 12 0 (not (formed r)) (guard 11 0 false ∷ guards c (log_of r)) (rw ok)
      ∙ first_goes_on 11 0 false (guards c (log_of r)) refl

  run_at : (v : Verdict) → first (guards c (log_of r)) ≡ v → run c true r ≡ at v
  unfolding run at
  run_at v e = rw (on_log, e)

  refuses_at : (n k : ℕ) → first (guard 11 0 (malformed c) ∷ further c (log_of r)) ≡ refuses n k
      → outcome (refused n k) r ≡ run c true r
  unfolding at
  refuses_at n k e = sym (run_at (refuses n k) (verdict c (log_of r) (log_formed r ok) ∙ e))

  pub bad_call : malformed c ≡ true → outcome (refused 11 0) r ≡ run c true r
  bad_call m = refuses_at 11 0 (first_refuses 11 0 (malformed c) (further c (log_of r)) m)

  module _ (m : malformed c ≡ false) where
    goes_on : first (guard 11 0 (malformed c) ∷ further c (log_of r)) ≡ first (further c (log_of r))
    goes_on = first_goes_on 11 0 (malformed c) (further c (log_of r)) m

    pub call_refused : (n k : ℕ) → refuses n k ≡ first (further c (log_of r)) → outcome (refused n k) r ≡ run c true r
    call_refused n k e = refuses_at n k (goes_on ∙ sym e)

    pub call_stands : passes ≡ first (further c (log_of r)) → (y : Reply c) (x : Raw) → y ≡ reply_of c (log_of r)
        → Stands (effect c (log_of r)) x → outcome (replied y) x ≡ run c true r
    unfolding at
    call_stands e y x p s =
        ap (λ (z : Reply c). outcome (replied z) x) p
        ∙ ap (outcome (replied (reply_of c (log_of r)))) (sym (stands_raw (effect c (log_of r)) x s))
        ∙ sym (run_at passes (verdict c (log_of r) (log_formed r ok) ∙ goes_on ∙ sym e))

  -- the state after a call is formed again, and stands for the log after the model's
  keeps_at : (v : Verdict) → first (guards c (log_of r)) ≡ v
      → (formed (at v).after ≡ true) × (log_of (at v).after ≡ after v (effect c (log_of r)) (log_of r))
  unfolding at state_after
  keeps_at passes e =
      let w : well_formed (effect c (log_of r)) ≡ true = rw e at (call_keeps c (log_of r) (log_formed r ok)) in
      (raw_formed (effect c (log_of r)) w, log_of_raw (effect c (log_of r)) w)
  keeps_at (refuses n k) e = (ok, refl)

  pub run_keeps : (whole : Bool) → formed (run c whole r).after ≡ true
  run_keeps true = rw (run_at _ refl) (keeps_at _ refl).0
  run_keeps false = rw (← not_whole c false r ok refl) ok

  pub run_stands : log_of (run c true r).after ≡ state_after c (log_of r)
  unfolding state_after
  run_stands = rw (run_at _ refl) (keeps_at _ refl).1

-- a question about the numbers: refusal 12, or what they say
module _ {A : Type 0} (f : Numbers → A) (r : Raw) where
  pub not_asked : formed r ≡ false → refused 12 0 ≡ of_numbers f r
  unfolding of_numbers
  not_asked e = rw e

  pub asked_of : formed r ≡ true → (y : A) → y ≡ f (numbers_in r.index) → replied y ≡ of_numbers f r
  unfolding of_numbers
  asked_of ok y e = rw ok (ap replied e)
