-- The bounds within which the sums of the numbers fit: well-formed numbers keep them.
use Rattle.words.proofs.Prelude.{arith, ◌≡◌, refl, sym, ◌∙◌, ℕ, ◌+◌, ◌-◌, ◌≤◌, ◌<◌, Bool, true, false, true≢false, ltb}
use Rattle.words.proofs.Prelude.{leb, lt-ltb, le-ltb, le-leb, leb-true}
use Rattle.std.specs.Int.{from_bool}
use Rattle.words.proofs.Tests.{Reach, reached, short, reach, and_left, and_right, both_true}
use Rattle.entry.specs.Limits.{entry_room, last_index}
use Rattle.model.specs.{Numbers.Numbers, Numbers.end_of, Numbers.accepted_of, Numbers.numbers_formed, Inner.Sound}
use Rattle.model.proofs.Forms.{sound_of}
use Rattle.state_cache.specs.{State.one_if, Inner.sizes_formed, Inner.Small}

-- what `u64::from` gives of a flag
pub from_bool-one_if : (b : Bool) → from_bool b ≡ one_if b
from_bool-one_if true = refl
from_bool-one_if false = refl

pub one-le : (b : Bool) → one_if b ≤ 1
one-le true = omega arith
one-le false = omega arith

pub accepted_le : (n : Numbers) → accepted_of n ≤ end_of n + 1
unfolding accepted_of
accepted_le n = omega (arith, one-le n.stop)

pub end_le : (n : Numbers) → end_of n ≤ accepted_of n
unfolding accepted_of
end_le n = omega arith

pub small_of : (n : Numbers) → sizes_formed n ≡ true → Small n
unfolding sizes_formed
small_of n e =
    let e₂ = and_right (leb n.retained entry_room) _ e in
    record {
      few = leb-true n.retained entry_room (and_left _ _ e);
      waiting = leb-true n.batched entry_room (and_left _ _ e₂);
      low = leb-true n.compacted last_index (and_right (leb n.batched entry_room) _ e₂);
    }

pub sound_small : (n : Numbers) → Sound n → Small n
unfolding accepted_of end_of
sound_small n f = record {
  few = omega (arith, f.room);
  waiting = omega (arith, f.room);
  low = omega (arith, f.low, f.high, f.inside);
}

pub sizes_fail : (n : Numbers) → sizes_formed n ≡ false → numbers_formed n ≡ false
unfolding sizes_formed
sizes_fail n e = go (numbers_formed n) refl
  where
    go : (t : Bool) → numbers_formed n ≡ t → t ≡ false
    go true q =
        let s = sound_small n (sound_of n q) in
        absurd (true≢false (sym (both_true (leb n.retained entry_room) _ (le-leb n.retained entry_room s.few)
        (both_true (leb n.batched entry_room) _ (le-leb n.batched entry_room s.waiting)
        (le-leb n.compacted last_index s.low))) ∙ e))
    go false q = refl

-- a sum against the largest index, by what is left below it
module _ (a n more : ℕ) (fits : more ≤ last_index) where
  pub past_high : last_index - more < a → true ≡ ltb last_index (a + n + more)
  past_high h = sym (lt-ltb last_index (a + n + more) (omega arith))

  pub past_long : a ≤ last_index - more → ltb (last_index - more - a) n ≡ ltb last_index (a + n + more)
  past_long h = go (reach n (last_index - more - a))
    where
      go : Reach n (last_index - more - a) → ltb (last_index - more - a) n ≡ ltb last_index (a + n + more)
      go (reached x) = le-ltb (last_index - more - a) n x ∙ sym (le-ltb last_index (a + n + more) (omega arith))
      go (short x) = lt-ltb (last_index - more - a) n x ∙ sym (lt-ltb last_index (a + n + more) (omega arith))
