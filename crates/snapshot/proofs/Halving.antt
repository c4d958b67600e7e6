-- How often a range can be halved: a search looks at no more entries.
use Rattle.words.proofs.Prelude.{arith, ◌≡◌, refl, ap, ℕ, zero, suc, ◌≤◌, ◌<◌}
use Prim.Native.Nat.{◌/◌}
use Rattle.entry.specs.Limits.{key_room}

-- of x entries: the first number is any that is no less
pub halvings : ℕ → ℕ → ℕ
halvings zero x = 0
halvings (suc f) zero = 0
halvings (suc f) (suc x) = suc (halvings f (suc x / 2))

rises : (f x y : ℕ) → x ≤ y → halvings f x ≤ halvings f y
unfolding halvings
rises zero x y h = omega arith
rises (suc f) zero y h = omega arith
rises (suc f) (suc x) zero h = absurd (omega arith)
rises (suc f) (suc x) (suc y) h = let r = rises f (suc x / 2) (suc y / 2) (omega arith) in omega arith

enough : (f x : ℕ) → x ≤ f → halvings (suc f) x ≡ halvings f x
unfolding halvings
enough zero zero h = refl
enough zero (suc x) h = absurd (omega arith)
enough (suc f) zero h = refl
enough (suc f) (suc x) h = ap suc (enough f (suc x / 2) (omega arith))

pub halved : (f x y : ℕ) → x ≤ f → 0 < x → y ≤ x / 2 → halvings f y < halvings f x
unfolding halvings
halved zero x y h l e = absurd (omega arith)
halved (suc f) zero y h l e = absurd (omega arith)
halved (suc f) (suc x) y h l e =
    omega (arith, enough f y (omega arith), rises f y (suc x / 2) e)

-- a full snapshot: ten entries
pub ten : halvings key_room key_room ≡ 10
unfolding halvings
ten = refl
