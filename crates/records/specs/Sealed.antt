-- A record: fields of so many bytes each, one after the other, and "the 16-bit sum of its earlier bytes, mark
-- included, modulo 65,536". The mark is the first field.
use Rattle.std.specs.Prelude.{ℕ, ◌+◌, ◌%◌, ◌^◌, Bool, ◌&&◌, List, [], ◌∷◌, ◌++◌, map, ltb, leb, eqb, length, take, drop}
use Rattle.words.specs.All.{all_of}
use Rattle.records.specs.Big.{big, value}

unfoldable pub total : List ℕ → ℕ
total [] = 0
total (b ∷ bs) = b + total bs

abbrev pub sum_of : List ℕ → ℕ
sum_of bs = total bs % 65536

abbrev pub seal : List ℕ → List ℕ
seal bs = bs ++ big 2 (sum_of bs)

-- a number, and how many bytes it has
pub record Field : Type 0 where
  pub width : ℕ
  pub number : ℕ

abbrev pub field : ℕ → ℕ → Field
field w n = record { width = w; number = n }

abbrev pub widths : List Field → List ℕ
widths fs = map (λ (f : Field). f.width) fs

abbrev pub numbers : List Field → List ℕ
numbers fs = map (λ (f : Field). f.number) fs

-- numbers in fields of these widths
abbrev pub zipped : List ℕ → List ℕ → List Field
zipped [] ns = []
zipped (w ∷ ws) [] = []
zipped (w ∷ ws) (n ∷ ns) = field w n ∷ zipped ws ns

-- whether each number fits its field, and whether what a field holds fits a word
abbrev pub fits : List Field → Bool
fits fs = all_of (λ (f : Field). ltb f.number (256 ^ f.width)) fs

abbrev pub narrow : List ℕ → Bool
narrow ws = all_of (λ (w : ℕ). leb w 8) ws

-- the fields' bytes; and the fields that stand at the front of some bytes
unfoldable pub packed : List Field → List ℕ
packed [] = []
packed (f ∷ fs) = big f.width f.number ++ packed fs

unfoldable pub unpacked : List ℕ → List ℕ → List Field
unpacked [] bs = []
unpacked (w ∷ ws) bs = field w (value (take w bs)) ∷ unpacked ws (drop w bs)

abbrev pub sealed : List Field → List ℕ
sealed fs = seal (packed fs)

-- whether the k bytes at the front are followed by their sum, and whether fields of these widths stand at the front,
-- sealed
unfoldable pub sum_holds : ℕ → List ℕ → Bool
sum_holds k bs = eqb (value (take 2 (drop k bs))) (sum_of (take k bs))

unfoldable pub is_sealed : List ℕ → List ℕ → Bool
is_sealed ws bs = leb (total ws + 2) (length bs) && sum_holds (total ws) bs
