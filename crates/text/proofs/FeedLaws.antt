-- A part of a line that is kept, or does not fit.
use Rattle.words.proofs.Prelude.{arith, ◌≡◌, refl, sym, ap, ◌∙◌, ℕ, ◌+◌, ◌-◌, ◌≤◌, ◌<◌, Bool, true, false, leb, le-leb}
use Rattle.words.proofs.Prelude.{lt-leb, leb-true, if◌then◌else◌, none, some, List, ◌++◌, length, take, length-take-le}
use Rattle.text.specs.Feeding.{come, joined, next_at}

pub joined_cut : (over : Bool) (len : ℕ) (line part : List ℕ) → len ≤ length line → length line - len < length part
    → none ≡ joined (length line) (come over len line) part
joined_cut true len line part h l = refl
joined_cut false len line part h l =
    let e = length-take-le len line h in
    let k : length line < length (take len line) + length part = omega (arith, e) in
    sym (ap (λ (b : Bool). if b then some (take len line ++ part) else none) (lt-leb _ _ k))

pub joined-more : (over : Bool) (len n : ℕ) (line after part : List ℕ) → len ≤ length line
    → length part ≤ length line - len
    → take n after ≡ take len line ++ part → come over n after ≡ joined (length line) (come over len line) part
joined-more true len n line after part h l e = refl
joined-more false len n line after part h l e =
    let t = length-take-le len line h in
    let k : length (take len line) + length part ≤ length line = omega (arith, t) in
    ap some e ∙ sym (ap (λ (b : Bool). if b then some (take len line ++ part) else none) (le-leb _ _ k))

pub next_low : (last used : ℕ) → next_at last used ≤ last
next_low last used = go (leb used last) refl
  where
    go : (b : Bool) → leb used last ≡ b → (if b then used else 0) ≤ last
    go true e = leb-true used last e
    go false e = omega arith
