-- Demand 1 of the image's calls: a refused write leaves every byte, and a refused read every word.
use Rattle.words.proofs.Prelude.{arith, ◌≡◌, refl, ℕ, List, ◌∷◌, not}
use Rattle.entry.specs.Guards.{guard, Verdict, passes, refuses, first, refused}
use Rattle.state_cache.specs.{State.Raw, State.log_of, Run.Outcome}
use Rattle.image.specs.{Image.image_of, Calls.write_guards, Calls.put_by, Calls.write_call, Calls.image_guards}
use Rattle.image.specs.Calls.{state_in, lent_well, loaded, read_call}

pub write_keeps : (r : Raw) (out : List ℕ) (n k : ℕ) → (write_call r out).answer ≡ refused n k
    → (write_call r out).output ≡ out
unfolding write_call
write_keeps r out n k = go (first (write_guards r out))
  where
    go : (v : Verdict) → (put_by v (image_of (log_of r)) out).answer ≡ refused n k
        → (put_by v (image_of (log_of r)) out).output ≡ out
    go passes e = let z : ◌≡◌ {A = ℕ} 0 1 = cc in absurd (omega arith)
    go (refuses m j) e = refl

pub read_keeps : (size : ℕ) (bs log snapshot : List ℕ) (n k : ℕ) → (read_call size bs log snapshot).answer ≡ refused n k
    → ((read_call size bs log snapshot).after.log ≡ log) × ((read_call size bs log snapshot).after.snapshot ≡ snapshot)
unfolding read_call
read_keeps size bs log snapshot n k =
    go (first (guard 11 0 (not (lent_well size log snapshot)) ∷ image_guards bs))
  where
    by : Verdict → Outcome ℕ
    by v = loaded v (state_in size bs) log snapshot

    go : (v : Verdict) → (by v).answer ≡ refused n k → ((by v).after.log ≡ log) × ((by v).after.snapshot ≡ snapshot)
    go passes e = let z : ◌≡◌ {A = ℕ} 0 1 = cc in absurd (omega arith)
    go (refuses m j) e = (refl, refl)
