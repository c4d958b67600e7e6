-- A number and its bytes, both ways.
use Rattle.words.proofs.Prelude.{arith, ◌≡◌, refl, sym, ap, ap₂, ◌∙◌, ℕ, zero, suc, ◌+◌, ◌*◌, ◌/◌, ◌<◌, Bool, true}
use Rattle.words.proofs.Prelude.{ltb, lt-ltb, ltb-true, List, [], ◌∷◌, ◌++◌, length-append, length, take, get_or}
use Rattle.words.proofs.Prelude.{length-take-le}
use Prim.Native.Nat.{◌%◌, ◌^◌}
use Rattle.std.proofs.lemmas.List.{take_more}
use lib.Seq.{take-suc, take-length}
use Rattle.words.specs.All.{all_of}
use Rattle.words.proofs.Alls.{all_head, all_tail, all_cons, all_join, all_take}
use Rattle.records.specs.Big.{big, onto, value, are_bytes}

abbrev pub byte : ℕ → Bool
byte b = ltb b 256

pub big_length : (k n : ℕ) → length (big k n) ≡ k
unfolding big
big_length zero n = refl
big_length (suc k) n = omega (arith, length-append (big k (n / 256)) (n % 256 ∷ []), big_length k (n / 256))

pub big_bytes : (k n : ℕ) → are_bytes (big k n) ≡ true
unfolding big all_of
big_bytes zero n = refl
big_bytes (suc k) n =
    all_join byte (big k (n / 256)) (n % 256 ∷ []) (big_bytes k (n / 256))
    (all_cons byte (n % 256) [] (lt-ltb (n % 256) 256 (omega arith)) refl)

pub onto_append : (n : ℕ) (a b : List ℕ) → onto n (a ++ b) ≡ onto (onto n a) b
unfolding onto
onto_append n [] b = refl
onto_append n (x ∷ a) b = onto_append (n * 256 + x) a b

value_snoc : (a : List ℕ) (b : ℕ) → value (a ++ (b ∷ [])) ≡ value a * 256 + b
unfolding onto
value_snoc a b = onto_append 0 a (b ∷ [])

pub value_more : (l : List ℕ) (i : ℕ) → i < length l → value (take (i + 1) l) ≡ value (take i l) * 256 + get_or l i 0
value_more l i h = ap value (take_more l i 0 h) ∙ value_snoc (take i l) (get_or l i 0)

pub value_big : (k n : ℕ) → n < 256 ^ k → value (big k n) ≡ n
unfolding big onto
value_big zero n h = omega arith
value_big (suc k) n h =
    let q : n / 256 < 256 ^ k = omega arith in
    value_snoc (big k (n / 256)) (n % 256) ∙ ap (λ (m : ℕ). m * 256 + n % 256) (value_big k (n / 256) q) ∙ omega arith

pub byte_at : (bs : List ℕ) (i : ℕ) → are_bytes bs ≡ true → get_or bs i 0 < 256
byte_at [] i e = omega arith
byte_at (b ∷ bs) zero e = ltb-true b 256 (all_head byte b bs e)
byte_at (b ∷ bs) (suc i) e = byte_at bs i (all_tail byte b bs e)

last_split : (k : ℕ) (bs : List ℕ) → length bs ≡ suc k → take k bs ++ (get_or bs k 0 ∷ []) ≡ bs
last_split k bs h = sym (take-suc bs k 0 (omega arith)) ∙ ap (λ (n : ℕ). take n bs) (sym h) ∙ take-length bs

pub value_lt : (k : ℕ) (bs : List ℕ) → length bs ≡ k → are_bytes bs ≡ true → value bs < 256 ^ k
unfolding onto
value_lt zero [] h e = omega arith
value_lt zero (b ∷ bs) h e = absurd (omega arith)
value_lt (suc k) bs h e =
    let front : value (take k bs) < 256 ^ k = value_lt k (take k bs) (length-take-le k bs (omega arith))
    (all_take byte k bs e) in
    let whole : value bs ≡ value (take k bs) * 256 + get_or bs k 0 = ap value (sym (last_split k bs h))
    ∙ value_snoc (take k bs) (get_or bs k 0) in
    omega (arith, front, whole, byte_at bs k e)

pub big_value : (k : ℕ) (bs : List ℕ) → length bs ≡ k → are_bytes bs ≡ true → big k (value bs) ≡ bs
unfolding big
big_value zero [] h e = refl
big_value zero (b ∷ bs) h e = absurd (omega arith)
big_value (suc k) bs h e =
    let v : ℕ = value (take k bs) in
    let b : ℕ = get_or bs k 0 in
    let small : b < 256 = byte_at bs k e in
    let q : (v * 256 + b) / 256 ≡ v = omega arith in
    let r : (v * 256 + b) % 256 ≡ b = omega arith in
    ap (λ (l : List ℕ). big k (value l / 256) ++ (value l % 256 ∷ [])) (sym (last_split k bs h))
    ∙ ap (λ (n : ℕ). big k (n / 256) ++ (n % 256 ∷ [])) (value_snoc (take k bs) b)
    ∙ ap₂ (λ (x y : ℕ). big k x ++ (y ∷ [])) q r
    ∙ ap (λ (l : List ℕ). l ++ (b ∷ []))
    (big_value k (take k bs) (length-take-le k bs (omega arith)) (all_take byte k bs e))
    ∙ last_split k bs h
