-- The header: what was written is there again, and what is sound was written.
use Rattle.words.proofs.Prelude.{arith, ◌≡◌, refl, sym, ap, ap₂, ◌∙◌, ℕ, zero, suc, ◌≤◌, ◌<◌, Bool, true, false, ◌&&◌}
use Rattle.words.proofs.Prelude.{◌||◌, not, eqb, ltb, leb, lt-ltb, ltb-true, leb-true, List, [], ◌∷◌, ◌++◌, length}
use Rattle.words.proofs.Prelude.{take, drop, get_or, drop-cons}
use Prim.Native.Nat.{◌^◌}
use Rattle.words.specs.All.{all_of}
use Rattle.words.proofs.Tests.{and_left, and_right, both_true}
use Rattle.words.proofs.Alls.{all_drop}
use Rattle.records.specs.Big.{value, are_bytes, onto}
use Rattle.records.specs.Sealed.{total, Field, field, fits, unpacked, sealed, is_sealed, sum_holds}
use Rattle.records.proofs.SealedLaws.{sealed_length, sealed_is, sealed_says, is_sealed_lem, is_fit, field_at, number_at}
use Rattle.entry.specs.declared.Ballot.{Ballot}
use Rattle.image.specs.Layout.{head_mark, flag_byte, flags_of, bit_held, ballot_fields, head_fields, head_widths}
use Rattle.image.specs.Layout.{head_size}
use Rattle.image.specs.Reading.{nth, head_from, head_at, head_numbers, head_formed, head_sound}
use Rattle.image.specs.Inner.{ballot_at}
use native.Mathlib.Nat.{zero-add}
use mathlib.Core.Bool.{and-false}
use Rattle.entry.specs.Limits.{key_room}
use Rattle.model.specs.Numbers.{accepted_of, numbers_formed}
use Rattle.image.specs.Typed.{ballot_typed}
use Rattle.image.specs.declared.Head.{Head}

-- ---- flags

-- what a flag byte says of the three flags
record Flags (a b c : Bool) : Type 0 where
  small : ltb (flag_byte a b c) 8 ≡ true
  first : bit_held 0 (flag_byte a b c) ≡ a
  second : bit_held 1 (flag_byte a b c) ≡ b
  third : bit_held 2 (flag_byte a b c) ≡ c

flags : (a b c : Bool) → Flags a b c
flags true true true = record { small = refl; first = refl; second = refl; third = refl }
flags true true false = record { small = refl; first = refl; second = refl; third = refl }
flags true false true = record { small = refl; first = refl; second = refl; third = refl }
flags true false false = record { small = refl; first = refl; second = refl; third = refl }
flags false true true = record { small = refl; first = refl; second = refl; third = refl }
flags false true false = record { small = refl; first = refl; second = refl; third = refl }
flags false false true = record { small = refl; first = refl; second = refl; third = refl }
flags false false false = record { small = refl; first = refl; second = refl; third = refl }

pub flags_are : (v : ℕ) → v < 8 → flag_byte (bit_held 0 v) (bit_held 1 v) (bit_held 2 v) ≡ v
flags_are zero h = refl
flags_are (suc zero) h = refl
flags_are (suc (suc zero)) h = refl
flags_are (suc (suc (suc zero))) h = refl
flags_are (suc (suc (suc (suc zero)))) h = refl
flags_are (suc (suc (suc (suc (suc zero))))) h = refl
flags_are (suc (suc (suc (suc (suc (suc zero)))))) h = refl
flags_are (suc (suc (suc (suc (suc (suc (suc zero))))))) h = refl
flags_are (suc (suc (suc (suc (suc (suc (suc (suc n)))))))) h = absurd (omega arith)

-- two headers that agree in each field
pub head_same : (k : Head) (a b c : Bool) (d e f g h : ℕ) (p q : Ballot) → a ≡ k.snapshot → b ≡ k.stop
    → c ≡ k.metadata → d ≡ k.compacted → e ≡ k.decided → f ≡ k.accepted → g ≡ k.entries → h ≡ k.keys
    → p ≡ k.promise → q ≡ k.round
    → ◌≡◌ {A = Head} (record {
      snapshot = a;
      stop = b;
      metadata = c;
      compacted = d;
      decided = e;
      accepted = f;
      entries = g;
      keys = h;
      promise = p;
      round = q;
    }) k
head_same k a b c d e f g h p q p₁ p₂ p₃ p₄ p₅ p₆ p₇ p₈ p₉ p₀ = rw (p₁, p₂, p₃, p₄, p₅, p₆, p₇, p₈, p₉, p₀)

-- ---- what was written

-- every number within its bits
pub record Small (h : Head) : Type 0 where
  pub compacted : h.compacted < 2 ^ 32
  pub decided : h.decided < 2 ^ 32
  pub accepted : h.accepted < 2 ^ 32
  pub entries : h.entries < 2 ^ 16
  pub keys : h.keys < 2 ^ 16
  pub promise : ballot_typed h.promise ≡ true
  pub round : ballot_typed h.round ≡ true

ballot_fits : (b : Ballot) (rest : List Field) → ballot_typed b ≡ true → fits rest ≡ true
    → fits (ballot_fields b ++ rest) ≡ true
unfolding all_of
ballot_fits b rest t e =
    let t₁ = and_right (ltb b.config_id (2 ^ 32)) _ t in
    let t₂ = and_right (ltb b.n (2 ^ 32)) _ t₁ in
    both_true (ltb b.config_id (2 ^ 32)) _ (and_left _ _ t)
    (both_true (ltb b.n (2 ^ 32)) _ (and_left _ _ t₁)
    (both_true (ltb b.priority (2 ^ 32)) _ (and_left _ _ t₂)
    (both_true (ltb b.pid (2 ^ 64)) _ (and_right (ltb b.priority (2 ^ 32)) _ t₂) e)))

pub head_fits : (h : Head) → Small h → fits (head_fields h) ≡ true
unfolding all_of
head_fits h s =
    let low : flags_of h < 8 = ltb-true (flags_of h) 8 (flags h.snapshot h.stop h.metadata).small in
    both_true (ltb (flags_of h) 256) _ (lt-ltb (flags_of h) 256 (omega arith))
    (both_true (ltb h.compacted (2 ^ 32)) _ (lt-ltb h.compacted (2 ^ 32) s.compacted)
    (both_true (ltb h.decided (2 ^ 32)) _ (lt-ltb h.decided (2 ^ 32) s.decided)
    (both_true (ltb h.accepted (2 ^ 32)) _ (lt-ltb h.accepted (2 ^ 32) s.accepted)
    (both_true (ltb h.entries (2 ^ 16)) _ (lt-ltb h.entries (2 ^ 16) s.entries)
    (both_true (ltb h.keys (2 ^ 16)) _ (lt-ltb h.keys (2 ^ 16) s.keys)
    (ballot_fits h.promise (ballot_fields h.round ++ []) s.promise
    (ballot_fits h.round [] s.round refl)))))))

module _ (h : Head) (s : Small h) (rest : List ℕ) where
  abbrev written : List ℕ
  written = sealed (head_fields h) ++ rest

  head_says : unpacked head_widths written ≡ head_fields h
  head_says = sealed_says (head_fields h) rest (head_fits h s)

  pub head_back : head_at written ≡ h
  unfolding head_at
  head_back =
      ap head_from head_says
      ∙ head_same h _ _ _ _ _ _ _ _ _ _ (flags h.snapshot h.stop h.metadata).first
      (flags h.snapshot h.stop h.metadata).second
      (flags h.snapshot h.stop h.metadata).third refl refl refl
      refl refl refl refl

  pub head_marked : value (take 2 written) ≡ head_mark
  unfolding total
  head_marked = field_at [] (drop 1 (head_fields h)) 2 head_mark 0 rest (omega arith) refl

  pub head_format : value (take 2 (drop 2 written)) ≡ 1
  unfolding total
  head_format = field_at (field 2 head_mark ∷ []) (drop 2 (head_fields h)) 2 1 2 rest (omega arith) refl

  pub head_sound_lem : head_formed h ≡ true → head_sound written ≡ true
  unfolding head_sound
  head_sound_lem e =
      both_true (is_sealed head_widths written) _ (sealed_is (head_fields h) rest)
      (both_true (ltb (nth (unpacked head_widths written) 2) 8) _
      (ap (λ (fs : List Field). ltb (nth fs 2) 8) head_says ∙ (flags h.snapshot h.stop h.metadata).small)
      (ap head_formed head_back ∙ e))

pub head_length : (h : Head) → length (sealed (head_fields h)) ≡ head_size
unfolding total
head_length h = sealed_length (head_fields h)

-- ---- what is sound

pub head_forth : (bs : List ℕ) → are_bytes bs ≡ true → value (take 2 bs) ≡ head_mark → value (take 2 (drop 2 bs)) ≡ 1
    → head_sound bs ≡ true
    → bs ≡ sealed (head_fields (head_at bs)) ++ drop head_size bs
unfolding head_sound head_at unpacked total
head_forth bs b m f e =
    let q = and_right (is_sealed head_widths bs) _ e in
    let v : ℕ = nth (unpacked head_widths bs) 2 in
    let g : flags_of (head_at bs) ≡ v = flags_are v (ltb-true v 8 (and_left _ _ q)) in
    is_sealed_lem head_widths bs b (and_left _ _ e)
    ∙ ap₂ (λ (x y : ℕ). sealed (field 2 x ∷ field 2 y ∷ drop 2 (unpacked head_widths bs)) ++ drop head_size bs) m f
    ∙ ap (λ (x : ℕ). sealed (field 2 head_mark ∷ field 2 1 ∷ field 1 x ∷ drop 3 (unpacked head_widths bs)) ++ drop
    head_size bs) (sym g)

pub head_formed_lem : (bs : List ℕ) → head_sound bs ≡ true → head_formed (head_at bs) ≡ true
unfolding head_sound
head_formed_lem bs e = and_right (ltb (nth (unpacked head_widths bs) 2) 8) _ (and_right (is_sealed head_widths bs) _ e)

pub record Ballots (h : Head) : Type 0 where
  pub promise : ballot_typed h.promise ≡ true
  pub round : ballot_typed h.round ≡ true

four : (a b c d r : Bool) → (a && (b && (c && (d && r)))) ≡ true → (a && (b && (c && d))) ≡ true
four true true true true r e = refl
four true true true false r e = e
four true true false d r e = e
four true false c d r e = e
four false b c d r e = e

ballot_typed_lem : (b : Ballot) (rest : List Field) → fits (ballot_fields b ++ rest) ≡ true → ballot_typed b ≡ true
unfolding all_of
ballot_typed_lem b rest e =
    four (ltb b.config_id (2 ^ 32)) (ltb b.n (2 ^ 32)) (ltb b.priority (2 ^ 32)) (ltb b.pid (2 ^ 64))
    (fits rest) e

pub head_typed : (bs : List ℕ) → are_bytes bs ≡ true → head_sound bs ≡ true → Ballots (head_at bs)
unfolding head_sound head_at unpacked all_of
head_typed bs b e =
    let fs : List Field = unpacked head_widths bs in
    let fit : Field → Bool = λ (f : Field). ltb f.number (256 ^ f.width) in
    let f : fits fs ≡ true = is_fit head_widths bs b (and_left _ _ e) in
    record {
      promise = ballot_typed_lem (head_at bs).promise (drop 12 fs) (all_drop fit 8 fs f);
      round = ballot_typed_lem (head_at bs).round [] (all_drop fit 12 fs f);
    }

-- ---- the header as code reads it, from fixed offsets

one_byte : (bs : List ℕ) (at : ℕ) → at < length bs → value (take 1 (drop at bs)) ≡ get_or bs at 0
unfolding onto
one_byte bs at h = ap (λ (l : List ℕ). value (take 1 l)) (drop-cons bs at 0 h) ∙ zero-add (get_or bs at 0)

abbrev pub head_there : List ℕ → Head
head_there bs = record {
  snapshot = bit_held 0 (get_or bs 4 0);
  stop = bit_held 1 (get_or bs 4 0);
  metadata = bit_held 2 (get_or bs 4 0);
  compacted = value (take 4 (drop 5 bs));
  decided = value (take 4 (drop 9 bs));
  accepted = value (take 4 (drop 13 bs));
  entries = value (take 2 (drop 17 bs));
  keys = value (take 2 (drop 19 bs));
  promise = ballot_at 21 bs;
  round = ballot_at 41 bs;
}

pub flags_there : (bs : List ℕ) → head_size ≤ length bs → nth (unpacked head_widths bs) 2 ≡ get_or bs 4 0
unfolding total
flags_there bs h = number_at head_widths bs 2 (omega arith) ∙ one_byte bs 4 (omega arith)

pub head_there_lem : (bs : List ℕ) → head_size ≤ length bs → head_at bs ≡ head_there bs
unfolding head_at total
head_there_lem bs h =
    rw (
      flags_there bs h,
      number_at head_widths bs 3 (omega arith),
      number_at head_widths bs 4 (omega arith),
      number_at head_widths bs 5 (omega arith),
      number_at head_widths bs 6 (omega arith),
      number_at head_widths bs 7 (omega arith),
      number_at head_widths bs 8 (omega arith),
      number_at head_widths bs 9 (omega arith),
      number_at head_widths bs 10 (omega arith),
      number_at head_widths bs 11 (omega arith),
      number_at head_widths bs 12 (omega arith),
      number_at head_widths bs 13 (omega arith),
      number_at head_widths bs 14 (omega arith),
      number_at head_widths bs 15 (omega arith),
    )

-- ---- its tests

module _ (bs : List ℕ) where
  pub sealed_head : (leb head_size (length bs) && sum_holds 61 bs) ≡ is_sealed head_widths bs
  unfolding is_sealed total
  sealed_head = refl

  pub head_room : is_sealed head_widths bs ≡ true → head_size ≤ length bs
  unfolding is_sealed total
  head_room e = leb-true head_size (length bs) (and_left _ _ e)

  pub head_open : is_sealed head_widths bs ≡ false → false ≡ head_sound bs
  unfolding head_sound
  head_open e = rw e

  pub head_tests : (known formed : Bool) → is_sealed head_widths bs ≡ true → known ≡ ltb (get_or bs 4 0) 8
      → formed ≡ head_formed (head_at bs) → (known && formed) ≡ head_sound bs
  unfolding head_sound
  head_tests known formed e p q =
      ap₂ (λ (a b : Bool). a && b) (p ∙ ap (λ (n : ℕ). ltb n 8) (sym (flags_there bs (head_room e)))) q
      ∙ sym (ap (λ (t : Bool). t && (ltb (nth (unpacked head_widths bs) 2) 8 && head_formed (head_at bs))) e)

pub not_formed : (h : Head) → numbers_formed (head_numbers h) ≡ false → false ≡ head_formed h
unfolding head_formed
not_formed h e = sym (ap (λ (t : Bool). a && (b && (c && (d && t)))) e ∙ none a b c d)
  where
    a : Bool
    a = h.stop || not h.metadata

    b : Bool
    b = h.snapshot || eqb h.keys 0

    c : Bool
    c = leb h.keys key_room

    d : Bool
    d = eqb h.accepted (accepted_of (head_numbers h))

    none : (a b c d : Bool) → (a && (b && (c && (d && false)))) ≡ false
    none a b c d = simp and-false
