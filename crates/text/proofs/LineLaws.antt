-- The lines of an input that comes in parts.
use Rattle.words.proofs.Prelude.{arith, ◌≡◌, refl, sym, ap, ◌∙◌, ℕ, suc, ◌+◌, ◌-◌, ◌≤◌, ◌<◌, Bool, true, false, eqb}
use Rattle.words.proofs.Prelude.{ltb, leb, eqb-true, ltb-true, ltb-false, lt-leb, leb-false, if◌then◌else◌, none, some}
use Rattle.words.proofs.Prelude.{List, [], ◌∷◌, append-nil, append_assoc, ◌++◌, length-drop, length-append, length}
use Rattle.words.proofs.Prelude.{take, drop, take_all}
use lib.Seq.{take-add}
use Rattle.text.specs.{Bytes.gap_of, Lines.Lines, Lines.line_ended, Lines.rest_with, Lines.ended_if, Lines.lines_from}
use Rattle.text.specs.{Feeding.fitting, Feeding.joined}

pub lines-append : (ls : Lines) (xs ys : List ℕ) → lines_from ls (xs ++ ys) ≡ lines_from (lines_from ls xs) ys
unfolding lines_from
lines-append ls [] ys = refl
lines-append ls (b ∷ xs) ys = lines-append (if eqb b 10 then line_ended ls else rest_with (b ∷ []) ls) xs ys

-- bytes that end no line
pub lines_within : (ls : Lines) (bs : List ℕ) → gap_of 10 bs ≡ length bs → lines_from ls bs ≡ rest_with bs ls
unfolding lines_from
lines_within ls [] h = ap {B = Lines} (λ (r : List ℕ). record { ended = ls.ended; rest = r })
    (sym (append-nil ls.rest))
lines_within ls (b ∷ bs) h = go (eqb b 10) h (λ (ms : Lines) (g : gap_of 10 bs ≡ length bs). lines_within ms bs g)
  where
    go : (t : Bool) → (if t then 0 else suc (gap_of 10 bs)) ≡ length (b ∷ bs)
        → ((ms : Lines) → gap_of 10 bs ≡ length bs → lines_from ms bs ≡ rest_with bs ms)
        → lines_from (if t then line_ended ls else rest_with (b ∷ []) ls) bs ≡ rest_with (b ∷ bs) ls
    go true g ih = absurd (omega arith)
    go false g ih =
        ih (rest_with (b ∷ []) ls) (omega arith)
        ∙ ap {B = Lines} (λ (r : List ℕ). record { ended = ls.ended; rest = r }) (append_assoc ls.rest (b ∷ []) bs)

-- up to the first line end there is none, and there it stands
pub gap_within : (bs : List ℕ) → gap_of 10 (take (gap_of 10 bs) bs) ≡ length (take (gap_of 10 bs) bs)
gap_within [] = refl
gap_within (b ∷ bs) = go (eqb b 10) refl (gap_within bs)
  where
    go : (t : Bool) → eqb b 10 ≡ t → gap_of 10 (take (gap_of 10 bs) bs) ≡ length (take (gap_of 10 bs) bs)
        → gap_of 10 (take (if t then 0 else suc (gap_of 10 bs)) (b ∷ bs))
        ≡ length (take (if t then 0 else suc (gap_of 10 bs)) (b ∷ bs))
    go true e ih = refl
    go false e ih = rw e (ap suc ih)

pub gap_ends : (bs : List ℕ) → gap_of 10 bs < length bs → take (gap_of 10 bs + 1) bs ≡ take (gap_of 10 bs) bs ++ (10 ∷ [])
gap_ends [] h = absurd (omega arith)
gap_ends (b ∷ bs) h = go (eqb b 10) refl h (gap_ends bs)
  where
    go : (t : Bool) → eqb b 10 ≡ t → (if t then 0 else suc (gap_of 10 bs)) < length (b ∷ bs)
        → (gap_of 10 bs < length bs → take (gap_of 10 bs + 1) bs ≡ take (gap_of 10 bs) bs ++ (10 ∷ []))
        → take ((if t then 0 else suc (gap_of 10 bs)) + 1) (b ∷ bs)
        ≡ take (if t then 0 else suc (gap_of 10 bs)) (b ∷ bs) ++ (10 ∷ [])
    go true e g ih = ap (λ (x : ℕ). x ∷ []) (eqb-true b 10 e)
    go false e g ih =
        let q : suc (gap_of 10 bs) + 1 ≡ suc (gap_of 10 bs + 1) = omega arith in
        rw q (ap (λ (l : List ℕ). b ∷ l) (ih (omega arith)))

-- a part of the input from one index up to the next line end, and the line end, where it has one
module _ (ls : Lines) (part : List ℕ) (at : ℕ) (h : at < length part) where
  abbrev left : List ℕ
  left = drop at part

  abbrev gap : ℕ
  gap = gap_of 10 left

  up_to : lines_from ls (take (at + gap) part) ≡ rest_with (take gap left) (lines_from ls (take at part))
  up_to =
      ap (lines_from ls) (take-add at gap part)
      ∙ lines-append ls (take at part) (take gap left)
      ∙ lines_within (lines_from ls (take at part)) (take gap left) (gap_within left)

  ends : gap < length left → lines_from ls (take (at + gap + 1) part)
      ≡ line_ended (rest_with (take gap left) (lines_from ls (take at part)))
  unfolding lines_from
  ends g =
      let q : at + gap + 1 ≡ at + (gap + 1) = omega arith in
      ap (λ (k : ℕ). lines_from ls (take k part)) q
      ∙ ap (lines_from ls) (take-add at (gap + 1) part ∙ ap (λ (l : List ℕ). take at part ++ l) (gap_ends left g)
      ∙ sym (append_assoc (take at part) (take gap left) (10 ∷ []))
      ∙ ap (λ (l : List ℕ). l ++ (10 ∷ [])) (sym (take-add at gap part)))
      ∙ lines-append ls (take (at + gap) part) (10 ∷ [])
      ∙ ap line_ended up_to

  goes_on : length left ≤ gap → lines_from ls (take (at + gap + 1) part)
      ≡ rest_with (take gap left) (lines_from ls (take at part))
  goes_on g =
      let e = length-drop at part in
      ap (lines_from ls) (take_all (at + gap + 1) part (omega (arith, e))
      ∙ sym (take_all (at + gap) part (omega (arith, e)))) ∙ up_to

  -- e is the index of that line end, or the end of the part, as the code finds it
  pub lines_part : (e : ℕ) → e ≡ at + gap_of 10 (take (length part - at) left)
      → lines_from ls (take (e + 1) part)
      ≡ ended_if (ltb e (length part)) (rest_with (take (e - at) left) (lines_from ls (take at part)))
  lines_part e q = go (ltb e (length part)) refl
    where
      all : take (length part - at) left ≡ left
      all = take_all (length part - at) left (omega (arith, length-drop at part))

      q' : e ≡ at + gap
      q' = q ∙ ap (λ (l : List ℕ). at + gap_of 10 l) all

      seg : take (e - at) left ≡ take gap left
      seg = let n : e - at ≡ gap = omega (arith, q') in ap (λ (k : ℕ). take k left) n

      to : lines_from ls (take (e + 1) part) ≡ lines_from ls (take (at + gap + 1) part)
      to = ap (λ (k : ℕ). lines_from ls (take (k + 1) part)) q'

      go : (t : Bool) → ltb e (length part) ≡ t
          → lines_from ls (take (e + 1) part) ≡ ended_if t (rest_with (take (e - at) left) (lines_from ls (take at part)))
      go true t = rw seg (to ∙ ends (omega (arith, ltb-true e (length part) t, length-drop at part, q')))
      go false t = rw seg (to ∙ goes_on (omega (arith, ltb-false e (length part) t, length-drop at part, q')))

-- a line that is kept in parts is kept as it is whole
pub joined_fitting : (room : ℕ) (bs part : List ℕ) → joined room (fitting room bs) part ≡ fitting room (bs ++ part)
joined_fitting room bs part = go (leb (length bs) room) refl
  where
    go : (t : Bool) → leb (length bs) room ≡ t
        → joined room (if t then some bs else none) part ≡ fitting room (bs ++ part)
    go true e = ap (λ (n : ℕ). if leb n room then some (bs ++ part) else none) (sym (length-append bs part))
    go false e =
        sym (rw (lt-leb (length (bs ++ part)) room (simp length-append (omega (arith, leb-false (length bs) room e)))))
