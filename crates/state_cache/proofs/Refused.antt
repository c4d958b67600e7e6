-- Demand 1: "A refusal carries its number … and changes no state and no lent word", of every call on a log.
use Rattle.words.proofs.Prelude.{arith, ◌≡◌, refl, sym, ap, ◌∙◌, ℕ, Bool, true, false, ◌&&◌, eqb, leb, if◌then◌else◌}
use Rattle.words.proofs.Prelude.{List, length}
use Rattle.entry.specs.Limits.{largest_batch, log_words, snapshot_words}
use Rattle.entry.specs.Guards.{Verdict, passes, refuses, first, refused, replied}
use Rattle.model.specs.{Numbers.Numbers, Log.fresh_log, Calls.Call, Calls.effect, Calls.reply_of, Orders.carries_of}
use Rattle.model.proofs.Orders.{carries}
use Rattle.state_cache.specs.State.{Raw, raw, numbers_in, formed, log_of, index_of, raw_of}
use Rattle.state_cache.specs.Run.{Outcome, outcome, chosen, verdict_on, run, fresh_call}
use Rattle.state_cache.proofs.{Stands.stands_of, Stands.numbers_are, Runs.on_log}

-- a refusal is the verdict's, and leaves the state
by_verdict : {A : Type 0} (v : Verdict) (y : A) (next r : Raw) (n k : ℕ) → (chosen v y next r).answer ≡ refused n k
    → (v ≡ refuses n k) × ((chosen v y next r).after ≡ r)
by_verdict passes y next r n k e = let z : ◌≡◌ {A = ℕ} 0 1 = cc in absurd (omega arith)
by_verdict (refuses m j) y next r n k e = (cc, refl)

module _ (c : Call) (whole : Bool) (r : Raw) (n k : ℕ) (e : (run c whole r).answer ≡ refused n k) where
  refuses_with : (verdict_on c whole r ≡ refuses n k) × ((run c whole r).after ≡ r)
  unfolding run
  refuses_with = by_verdict (verdict_on c whole r) (reply_of c (log_of r)) (raw_of (effect c (log_of r))) r n k e

  -- the record and every lent word after a refused call are those before it
  pub refused_keeps : (run c whole r).after ≡ r
  refused_keeps = refuses_with.1

  -- and what it carries is what the table has for its number
  pub refused_carries : k ≡ carries_of c (numbers_in r.index) n
  unfolding verdict_on first carries_of
  refused_carries = go (formed r) refl whole refuses_with.0
    where
      zero_carried : (m : ℕ) → refuses m 0 ≡ refuses n k → carries_of c (numbers_in r.index) m ≡ 0
          → k ≡ carries_of c (numbers_in r.index) n
      zero_carried m q z = cc

      go : (b : Bool) → formed r ≡ b → (w : Bool) → verdict_on c w r ≡ refuses n k
          → k ≡ carries_of c (numbers_in r.index) n
      go false f w q = zero_carried 12 (rw f at q) refl
      go true f false q = zero_carried 11 (rw f at q) refl
      go true f true q =
          carries c (log_of r) n k (sym (on_log c r f) ∙ q)
          ∙ ap (λ (x : Numbers). carries_of c x n) (numbers_are (log_of r) r (stands_of r f))

-- a fresh log that is refused leaves both slices
pub fresh_keeps : (size : ℕ) (log snapshot : List ℕ) (n k : ℕ) → (fresh_call size log snapshot).answer ≡ refused n k
    → ((fresh_call size log snapshot).after.log ≡ log) × ((fresh_call size log snapshot).after.snapshot ≡ snapshot)
unfolding fresh_call
fresh_keeps size log snapshot n k =
    go (leb size largest_batch && (eqb (length log) log_words && eqb (length snapshot) snapshot_words))
  where
    by : Bool → Outcome (Unit {0})
    by t = if t then outcome (replied tt) (raw_of (fresh_log size)) else outcome (refused 11 0)
        (raw (index_of (fresh_log 0)) log snapshot)

    go : (t : Bool) → (by t).answer ≡ refused n k → ((by t).after.log ≡ log) × ((by t).after.snapshot ≡ snapshot)
    go true e = let z : ◌≡◌ {A = ℕ} 0 1 = cc in absurd (omega arith)
    go false e = (refl, refl)
