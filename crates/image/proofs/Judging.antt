-- The verdict on some bytes, test by test.
use Rattle.words.proofs.Prelude.{◌≡◌, ℕ, ◌≤◌, ◌<◌, Bool, true, false, ◌||◌, not, eqb, ltb, lt-ltb, le-ltb, List}
use Rattle.words.proofs.Prelude.{length, take, drop}
use mathlib.Core.Bool.{or-true}
use Rattle.words.proofs.Tests.{and_left}
use Rattle.records.specs.Big.{value}
use Rattle.entry.specs.Guards.{passes, refuses, first}
use Rattle.image.specs.Layout.{head_mark, head_size}
use Rattle.image.specs.Reading.{head_at, head_sound, run_end, whole}
use Rattle.image.specs.Calls.{image_guards}
use Rattle.image.proofs.HeadLaws.{head_room, head_formed_lem}
use Rattle.image.proofs.Theorems.{Heads, heads_of}

module _ (bs : List ℕ) where
  abbrev pub unmarked : Bool
  unmarked = ltb (length bs) 4 || not (eqb (value (take 2 bs)) head_mark)

  pub too_short : length bs < 4 → unmarked ≡ true
  too_short h = rw (lt-ltb (length bs) 4 h)

  pub other_mark : eqb (value (take 2 bs)) head_mark ≡ false → unmarked ≡ true
  other_mark e = simp (e, or-true)

  pub is_marked : 4 ≤ length bs → eqb (value (take 2 bs)) head_mark ≡ true → unmarked ≡ false
  is_marked h e = rw (le-ltb (length bs) 4 h, e)

  pub says_unmarked : unmarked ≡ true → refuses 15 0 ≡ first (image_guards bs)
  unfolding image_guards first
  says_unmarked e = rw e

  module _ (e : unmarked ≡ false) where
    abbrev other : Bool
    other = eqb (value (take 2 (drop 2 bs))) 1

    pub says_format : other ≡ false → refuses 14 0 ≡ first (image_guards bs)
    unfolding image_guards first
    says_format f = rw (e, f)

    module _ (f : other ≡ true) where
      pub says_head : head_sound bs ≡ false → refuses 15 0 ≡ first (image_guards bs)
      unfolding image_guards first
      says_head h = rw (e, f, h)

      pub says_spoilt : head_sound bs ≡ true → whole (head_at bs) bs ≡ false
          → refuses 15 (run_end (head_at bs) bs) ≡ first (image_guards bs)
      unfolding image_guards first
      says_spoilt h w = rw (e, f, h, w)

      pub says_sound : head_sound bs ≡ true → whole (head_at bs) bs ≡ true → passes ≡ first (image_guards bs)
      unfolding image_guards first
      says_sound h w = rw (e, f, h, w)

  module _ (h : head_sound bs ≡ true) where
    pub head_long : head_size ≤ length bs
    unfolding head_sound
    head_long = head_room bs (and_left _ _ h)

    pub heads : Heads (head_at bs)
    heads = heads_of (head_at bs) (head_formed_lem bs h)
