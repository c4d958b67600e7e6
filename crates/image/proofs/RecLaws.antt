-- One record after the header: what was written is there again and sound, and what is sound was written.
use Rattle.words.proofs.Prelude.{arith, ◌≡◌, refl, sym, ap, ap₂, ◌∙◌, ℕ, zero, suc, ◌+◌, ◌-◌, ◌*◌, ◌≤◌, ◌<◌, Bool}
use Rattle.words.proofs.Prelude.{true, false, and-true, ◌&&◌, ◌||◌, eqb, ltb, leb, eq-eqb, eqb-true, lt-ltb, leb-true}
use Rattle.words.proofs.Prelude.{List, [], ◌∷◌, ◌++◌, map, length-drop, length-map, take-append-drop, length, take}
use Rattle.words.proofs.Prelude.{drop, replicate, length-take-le}
use Prim.Native.Nat.{◌^◌}
use lib.Seq.{take_at, drop_at, drop-drop, drop-append-add}
use Rattle.words.specs.All.{all_of}
use Rattle.words.specs.Words.{laid, all_zero}
use Rattle.words.proofs.Tests.{and_left, and_right, both_true}
use Rattle.words.proofs.Alls.{all_join, all_take, zeros_are, zeros_pass, all_left, all_right}
use Rattle.words.proofs.Laws.{take_laid, length_laid}
use Rattle.records.specs.Big.{value, are_bytes}
use Rattle.records.specs.Sealed.{total, Field, field, widths, numbers, fits, unpacked, sealed, is_sealed}
use Rattle.records.proofs.SealedLaws.{sealed_length, sealed_is, sealed_says, is_sealed_lem, is_fit, unpacked_widths}
use Rattle.records.proofs.SealedLaws.{unpacked_append, field_at, widths_append, widths_map, numbers_map, fits_map}
use Rattle.records.proofs.SealedLaws.{map_numbers, total_run, run_length, numbers_fit}
use Rattle.entry.specs.Limits.{width, most_nodes, most_metadata}
use Rattle.entry.specs.Change.{Change, change_formed, change_code}
use Rattle.entry.specs.Sign.{sign_formed}
use Rattle.entry.proofs.ChangeLaws.{change_ok}
use Rattle.entry.specs.declared.StopSign.{StopSign}
use Rattle.image.specs.Layout.{key_mark, entry_mark, stop_mark, Rec, key_rec, entry_rec, stop_rec, change_fields}
use Rattle.image.specs.Layout.{fields_of, rec_bytes, change_widths, stop_widths}
use Rattle.image.specs.Reading.{mark_of, nodes_at, metadata_at, widths_at, change_from, sign_from, sign_at, rec_at, iff}
use Rattle.image.specs.Reading.{rec_formed, sound_at}
use Rattle.image.specs.Typed.{are_words, change_typed, sign_typed}
use Rattle.image.specs.declared.Want.{Want}
use Rattle.image.specs.declared.Want.TheVariants.{Key, Entry, Stop}

abbrev pub rec_typed : Rec → Bool
rec_typed (key_rec c) = change_typed c
rec_typed (entry_rec c) = change_typed c
rec_typed (stop_rec g) = sign_typed g

pub false_true : {A : Type 0} → false ≡ true → A
false_true e = let z : ◌≡◌ {A = ℕ} 0 1 = cc in absurd (omega arith)

-- ---- keys and entries

pub change_fits : (mark : ℕ) (c : Change) → ltb mark (2 ^ 16) ≡ true → change_typed c ≡ true
    → fits (change_fields mark c) ≡ true
unfolding all_of
change_fits mark c m t = both_true (ltb mark (2 ^ 16)) _ m (fits_map 8 (change_code.enc c) t)

pub change_back : (mark : ℕ) (c : Change) (rest : List ℕ) → fits (change_fields mark c) ≡ true → change_formed c ≡ true
    → change_from (unpacked change_widths (sealed (change_fields mark c) ++ rest)) ≡ c
change_back mark c rest f e = ap change_from (sealed_says (change_fields mark c) rest f) ∙ change_ok.back c e

-- the words of the record at the front of some bytes
abbrev pub words_there : List ℕ → List ℕ
words_there bs = numbers (unpacked (replicate width 8) (drop 2 bs))

pub words_again : (bs : List ℕ) → change_code.enc (change_from (unpacked change_widths bs)) ≡ words_there bs
unfolding unpacked
words_again bs = change_ok.forth (words_there bs) refl

change_same : (mark : ℕ) (bs : List ℕ) → value (take 2 bs) ≡ mark
    → change_fields mark (change_from (unpacked change_widths bs)) ≡ unpacked change_widths bs
unfolding unpacked
change_same mark bs e =
    ap₂ (λ (m : ℕ) (l : List Field). field 2 m ∷ l) (sym e)
    (ap (map (field 8)) (words_again bs) ∙ map_numbers 8 width (drop 2 bs))

change_typed_lem : (bs : List ℕ) → fits (unpacked change_widths bs) ≡ true
    → change_typed (change_from (unpacked change_widths bs)) ≡ true
unfolding unpacked all_of
change_typed_lem bs e =
    ap are_words (words_again bs) ∙ numbers_fit 8 width (drop 2 bs) (and_right (ltb (value (take 2 bs)) (2 ^ 16)) _ e)

-- ---- stop-signs

-- what a stop-sign's form and types say
pub record Signed (g : StopSign) : Type 0 where
  pub config : ltb g.config_id (2 ^ 32) ≡ true
  pub most : g.node_count ≤ 7
  pub long : length g.nodes ≡ 7
  pub nodes : are_words g.nodes ≡ true
  pub bytes : g.metadata_len ≤ 32
  pub wide : length g.metadata ≡ 32
  pub metadata : are_bytes g.metadata ≡ true
  pub nodes_end : all_zero (drop g.node_count g.nodes) ≡ true
  pub bytes_end : all_zero (drop g.metadata_len g.metadata) ≡ true

pub signed_of : (g : StopSign) → sign_typed g ≡ true → sign_formed g ≡ true → Signed g
unfolding sign_formed
signed_of g t e =
    let t₁ = and_right (ltb g.config_id (2 ^ 32)) _ t in
    let t₂ = and_right (eqb (length g.nodes) most_nodes) _ t₁ in
    let t₃ = and_right (are_words g.nodes) _ t₂ in
    let e₁ = and_right (leb 1 g.node_count) _ e in
    let e₂ = and_right (leb g.node_count most_nodes) _ e₁ in
    let e₃ = and_right (leb g.metadata_len most_metadata) _ e₂ in
    let e₄ = and_right (g.metadata_held || eqb g.metadata_len 0) _ e₃ in
    record {
      config = and_left _ _ t;
      most = leb-true g.node_count most_nodes (and_left _ _ e₁);
      long = eqb-true (length g.nodes) most_nodes (and_left _ _ t₁);
      nodes = and_left _ _ t₂;
      bytes = leb-true g.metadata_len most_metadata (and_left _ _ e₂);
      wide = eqb-true (length g.metadata) most_metadata (and_left _ _ t₃);
      metadata = and_right (eqb (length g.metadata) most_metadata) _ t₃;
      nodes_end = and_left _ _ e₄;
      bytes_end = and_right (all_zero (drop g.node_count g.nodes)) _ e₄;
    }

-- an array whose unused elements are zero, from its used ones
laid_used : (n k : ℕ) (l : List ℕ) → length l ≡ k → n ≤ k → all_zero (drop n l) ≡ true → laid k (take n l) ≡ l
unfolding laid
laid_used n k l h q e =
    let m : k - length (take n l) ≡ length (drop n l) = omega
    (arith, length-take-le n l (omega arith), length-drop n l) in
    ap (λ (j : ℕ). take n l ++ replicate j 0) m
    ∙ ap (λ (r : List ℕ). take n l ++ r) (sym (zeros_are (drop n l) e))
    ∙ take-append-drop n l

module _ (g : StopSign) (s : Signed g) where
  abbrev used : List ℕ
  used = take g.node_count g.nodes

  abbrev said : List ℕ
  said = take g.metadata_len g.metadata

  abbrev front : List Field
  front = field 2 stop_mark ∷ field 4 g.config_id ∷ field 1 g.node_count ∷ []

  used_length : length used ≡ g.node_count
  used_length = length-take-le g.node_count g.nodes (omega (arith, s.most, s.long))

  said_length : length said ≡ g.metadata_len
  said_length = length-take-le g.metadata_len g.metadata (omega (arith, s.bytes, s.wide))

  pub stop_widths_lem : widths (fields_of (stop_rec g)) ≡ stop_widths g.node_count g.metadata_len
  stop_widths_lem =
      ap (λ (l : List ℕ). 2 ∷ 4 ∷ 1 ∷ l)
      (widths_append (map (field 8) used) (field 1 g.metadata_len ∷ map (field 1) said)
      ∙ ap₂ (λ (a b : List ℕ). a ++ (1 ∷ b))
      (widths_map 8 used ∙ ap (λ (n : ℕ). replicate n 8) used_length)
      (widths_map 1 said ∙ ap (λ (n : ℕ). replicate n 1) said_length))

  stop_fits : fits (fields_of (stop_rec g)) ≡ true
  unfolding all_of
  stop_fits =
      both_true (ltb g.config_id (2 ^ 32)) _ s.config
      (both_true (ltb g.node_count 256) _ (lt-ltb g.node_count 256 (omega (arith, s.most)))
      (all_join (λ (f : Field). ltb f.number (256 ^ f.width)) (map (field 8) used)
      (field 1 g.metadata_len ∷ map (field 1) said)
      (fits_map 8 used (all_take (λ (n : ℕ). ltb n (2 ^ 64)) g.node_count g.nodes s.nodes))
      (both_true (ltb g.metadata_len 256) _ (lt-ltb g.metadata_len 256 (omega (arith, s.bytes)))
      (fits_map 1 said (all_take (λ (n : ℕ). ltb n 256) g.metadata_len g.metadata s.metadata)))))

  stop_before : total (widths (front ++ map (field 8) used)) ≡ 7 + g.node_count * 8
  unfolding total
  stop_before =
      let e : total (widths (map (field 8) used)) ≡ g.node_count * 8 =
      ap total (widths_map 8 used) ∙ total_run 8 (length used) ∙ ap (λ (n : ℕ). n * 8) used_length in
      omega (arith, e)

  module _ (rest : List ℕ) where
    abbrev written : List ℕ
    written = rec_bytes (stop_rec g) ++ rest

    nodes_at_lem : nodes_at written ≡ g.node_count
    unfolding total
    nodes_at_lem =
        field_at (field 2 stop_mark ∷ field 4 g.config_id ∷ [])
        (map (field 8) used ++ (field 1 g.metadata_len ∷ map (field 1) said)) 1
        g.node_count 6 rest (omega (arith, s.most)) refl

    metadata_at_lem : metadata_at written ≡ g.metadata_len
    metadata_at_lem =
        ap (λ (n : ℕ). value (take 1 (drop (7 + n * 8) written))) nodes_at_lem
        ∙ field_at (front ++ map (field 8) used) (map (field 1) said) 1 g.metadata_len
        (7 + g.node_count * 8) rest
        (omega (arith, s.bytes)) stop_before

    stop_says : unpacked (widths_at (Stop g.metadata_held) written) written ≡ fields_of (stop_rec g)
    stop_says =
        ap₂ (λ (n l : ℕ). unpacked (stop_widths n l) written) nodes_at_lem metadata_at_lem
        ∙ ap (λ (ws : List ℕ). unpacked ws written) (sym stop_widths_lem)
        ∙ sealed_says (fields_of (stop_rec g)) rest stop_fits

-- the same stop-sign, part by part
sign_same : (m n : Bool) (c k l : ℕ) (a a' b b' : List ℕ) → m ≡ n → a ≡ a' → b ≡ b'
    → ◌≡◌ {A = StopSign}
    (record { config_id = c; node_count = k; nodes = a; metadata_held = m; metadata_len = l; metadata = b })
    (record { config_id = c; node_count = k; nodes = a'; metadata_held = n; metadata_len = l; metadata = b' })
sign_same m n c k l a a' b b' p q r =
    ap (λ (t : Bool). record {
      config_id = c;
      node_count = k;
      nodes = a;
      metadata_held = t;
      metadata_len = l;
      metadata = b;
    }) p
    ∙ ap₂ (λ (x y : List ℕ). record
    { config_id = c; node_count = k; nodes = x; metadata_held = n; metadata_len = l; metadata = y }) q r

pub iff_same : (m n : Bool) → iff m n ≡ true → m ≡ n
iff_same true true e = refl
iff_same true false e = false_true e
iff_same false true e = false_true e
iff_same false false e = refl

pub iff_self : (m : Bool) → iff m m ≡ true
iff_self true = refl
iff_self false = refl

stop_back : (m : Bool) (g : StopSign) (rest : List ℕ) → Signed g → m ≡ g.metadata_held
    → rec_at (Stop m) (rec_bytes (stop_rec g) ++ rest) ≡ stop_rec g
stop_back m g rest s p =
    let n : ℕ = g.node_count in
    let l : ℕ = g.metadata_len in
    let bs : List ℕ = rec_bytes (stop_rec g) ++ rest in
    let u : List ℕ = take n g.nodes in
    let y : List ℕ = take l g.metadata in
    let nodes : numbers (take n (map (field 8) u ++ (field 1 l ∷ map (field 1) y))) ≡ u =
    ap numbers (take_at (map (field 8) u) (field 1 l ∷ map (field 1) y) n (length-map u (field 8) ∙ used_length g s))
    ∙ numbers_map 8 u in
    let bytes : numbers (drop (suc n) (map (field 8) u ++ (field 1 l ∷ map (field 1) y))) ≡ y =
    ap numbers (drop_after n (map (field 8) u) (field 1 l) (map (field 1) y)
    (length-map u (field 8) ∙ used_length g s)) ∙ numbers_map 1 y in
    ap stop_rec
    (ap₂ (λ (j k : ℕ). sign_from m j k (unpacked (stop_widths (nodes_at bs) (metadata_at bs)) bs)) (nodes_at_lem g s rest)
    (metadata_at_lem g s rest)
    ∙ ap (λ (fs : List Field). sign_from m n l fs) (stop_says g s rest)
    ∙ sign_same m g.metadata_held g.config_id n l _ g.nodes _ g.metadata p
    (ap (laid most_nodes) nodes ∙ laid_used n most_nodes g.nodes s.long s.most s.nodes_end)
    (ap (laid most_metadata) bytes ∙ laid_used l most_metadata g.metadata s.wide s.bytes s.bytes_end))
  where
    drop_after : (n : ℕ) (a : List Field) (x : Field) (b : List Field) → length a ≡ n → drop (suc n) (a ++ x ∷ b) ≡ b
    drop_after n a x b h =
        let e : suc n ≡ length a + 1 = omega arith in
        ap (λ (k : ℕ). drop k (a ++ x ∷ b)) e ∙ drop-append-add a (x ∷ b) 1

-- the record at the front of some bytes, where it is a stop-sign's with few enough nodes and bytes
module _ (m : Bool) (bs : List ℕ) where
  abbrev count : ℕ
  count = nodes_at bs

  abbrev size : ℕ
  size = metadata_at bs

  abbrev pub past : List ℕ
  past = drop 1 (drop 4 (drop 2 bs))

  abbrev pub ids : List Field
  ids = unpacked (replicate count 8) past

  abbrev pub rest : List ℕ
  rest = drop (total (replicate count 8)) past

  abbrev pub texts : List Field
  texts = unpacked (replicate size 1) (drop 1 rest)

  pub rest-is : rest ≡ drop (7 + count * 8) bs
  rest-is =
      ap (λ (l : List ℕ). drop (total (replicate count 8)) (drop 1 l)) (drop-drop 4 2 bs)
      ∙ ap (drop (total (replicate count 8))) (drop-drop 1 6 bs)
      ∙ drop-drop (total (replicate count 8)) 7 bs
      ∙ ap (λ (k : ℕ). drop (7 + k) bs) (total_run 8 count)

  stop_fields_lem : unpacked (stop_widths count size) bs
      ≡ field 2 (value (take 2 bs)) ∷ field 4 (value (take 4 (drop 2 bs))) ∷ field 1 count ∷
      (ids ++ (field 1 size ∷ texts))
  unfolding unpacked
  stop_fields_lem =
      let c : value (take 1 (drop 4 (drop 2 bs))) ≡ count = ap (λ (l : List ℕ). value (take 1 l)) (drop-drop 4 2 bs) in
      let z : value (take 1 rest) ≡ size = ap (λ (l : List ℕ). value (take 1 l)) rest-is in
      ap₂ (λ (k : ℕ) (l : List Field). field 2 (value (take 2 bs)) ∷ field 4
      (value (take 4 (drop 2 bs))) ∷ field 1 k ∷ l) c
      (unpacked_append (replicate count 8) (1 ∷ replicate size 1) past ∙ ap (λ (k : ℕ). ids ++ (field 1 k ∷ texts)) z)

  abbrev pub there : StopSign
  there = record {
    config_id = value (take 4 (drop 2 bs));
    node_count = count;
    nodes = laid most_nodes (numbers ids);
    metadata_held = m;
    metadata_len = size;
    metadata = laid most_metadata (numbers texts);
  }

  pub sign_there_lem : sign_at m bs ≡ there
  sign_there_lem =
      let h : length ids ≡ count = run_length 8 count past in
      ap (λ (fs : List Field). sign_from m count size fs) stop_fields_lem
      ∙ sign_same m m (value (take 4 (drop 2 bs))) count size _ (laid most_nodes (numbers ids)) _
      (laid most_metadata (numbers texts)) refl
      (ap (λ (fs : List Field). laid most_nodes (numbers fs)) (take_at ids (field 1 size ∷ texts) count h))
      (ap (λ (fs : List Field). laid most_metadata (numbers fs)) (after h))
    where
      after : length ids ≡ count → drop (suc count) (ids ++ field 1 size ∷ texts) ≡ texts
      after h =
          let e : suc count ≡ length ids + 1 = omega arith in
          ap (λ (k : ℕ). drop k (ids ++ field 1 size ∷ texts)) e ∙ drop-append-add ids (field 1 size ∷ texts) 1

  stop_there : rec_at (Stop m) bs ≡ stop_rec there
  stop_there = ap stop_rec sign_there_lem

  ids_length : length (numbers ids) ≡ count
  ids_length = length-map ids (λ (f : Field). f.number) ∙ run_length 8 count past

  texts_length : length (numbers texts) ≡ size
  texts_length = length-map texts (λ (f : Field). f.number) ∙ run_length 1 size (drop 1 rest)

  stop_same : value (take 2 bs) ≡ stop_mark → fields_of (stop_rec there) ≡ unpacked (stop_widths count size) bs
  stop_same e =
      let u : take count (laid most_nodes (numbers ids)) ≡ numbers ids =
      ap (λ (k : ℕ). take k (laid most_nodes (numbers ids))) (sym ids_length) ∙ take_laid most_nodes (numbers ids) in
      let y : take size (laid most_metadata (numbers texts)) ≡ numbers texts =
      ap (λ (k : ℕ). take k (laid most_metadata (numbers texts))) (sym texts_length)
      ∙ take_laid most_metadata (numbers texts) in
      ap (λ (k : ℕ). field 2 k ∷ field 4 (value (take 4 (drop 2 bs))) ∷ field 1 count ∷
      (map (field 8) (take count (laid most_nodes (numbers ids))) ++
      (field 1 size ∷ map (field 1) (take size (laid most_metadata (numbers texts)))))) (sym e)
      ∙ ap₂ (λ (a b : List Field). field 2 (value (take 2 bs)) ∷ field 4 (value (take 4 (drop 2 bs))) ∷ field 1 count ∷
      (a ++ (field 1 size ∷ b)))
      (ap (map (field 8)) u ∙ map_numbers 8 count past)
      (ap (map (field 1)) y ∙ map_numbers 1 size (drop 1 rest))
      ∙ sym stop_fields_lem

all_zeros : (t : ℕ → Bool) (n : ℕ) → t 0 ≡ true → all_of t (replicate n 0) ≡ true
unfolding all_of
all_zeros t zero e = refl
all_zeros t (suc n) e = both_true (t 0) _ e (all_zeros t n e)

stop_typed : (m : Bool) (bs : List ℕ) → fits (unpacked (stop_widths (nodes_at bs) (metadata_at bs)) bs) ≡ true
    → nodes_at bs ≤ 7 → metadata_at bs ≤ 32
    → sign_typed (there m bs) ≡ true
unfolding laid all_of
stop_typed m bs e h k =
    let fit : Field → Bool = λ (f : Field). ltb f.number (256 ^ f.width) in
    let ns : List ℕ = numbers (ids m bs) in
    let ts : List ℕ = numbers (texts m bs) in
    let e₁ = and_right (ltb (value (take 2 bs)) (2 ^ 16)) _ (rw (stop_fields_lem m bs) at e) in
    let e₂ = and_right (ltb (value (take 4 (drop 2 bs))) (2 ^ 32)) _ e₁ in
    let e₃ = and_right (ltb (nodes_at bs) 256) _ e₂ in
    let e₄ = and_right (ltb (metadata_at bs) 256) _
    (all_right fit (ids m bs) (field 1 (metadata_at bs) ∷ texts m bs) e₃) in
    both_true (ltb (value (take 4 (drop 2 bs))) (2 ^ 32)) _ (and_left _ _ e₁)
    (both_true (eqb (length (laid most_nodes ns)) most_nodes) _
    (eq-eqb _ _ (length_laid most_nodes ns (omega (arith, h, ids_length m bs))))
    (both_true (are_words (laid most_nodes ns)) _
    (all_join (λ (n : ℕ). ltb n (2 ^ 64)) ns (replicate (most_nodes - length ns) 0)
    (numbers_fit 8 (nodes_at bs) (past m bs) (all_left fit (ids m bs) (field 1 (metadata_at bs) ∷ texts m bs) e₃))
    (all_zeros (λ (n : ℕ). ltb n (2 ^ 64)) (most_nodes - length ns) refl))
    (both_true (eqb (length (laid most_metadata ts)) most_metadata) _
    (eq-eqb _ _ (length_laid most_metadata ts (omega (arith, k, texts_length m bs))))
    (all_join (λ (n : ℕ). ltb n 256) ts (replicate (most_metadata - length ts) 0)
    (numbers_fit 1 (metadata_at bs) (drop 1 (rest m bs)) e₄)
    (all_zeros (λ (n : ℕ). ltb n 256) (most_metadata - length ts) refl)))))

-- ---- any record

pub rec_back : (f : ℕ) (w : Want) (r : Rec) (rest : List ℕ) → rec_typed r ≡ true → rec_formed f w r ≡ true
    → rec_at w (rec_bytes r ++ rest) ≡ r
rec_back f Key (key_rec c) rest t e =
    let q : change_formed c ≡ true = and_right (leb f c.key) _ e in
    ap key_rec (change_back key_mark c rest (change_fits key_mark c refl t) q)
rec_back f Key (entry_rec c) rest t e = false_true e
rec_back f Key (stop_rec g) rest t e = false_true e
rec_back f Entry (key_rec c) rest t e = false_true e
rec_back f Entry (entry_rec c) rest t e = ap entry_rec (change_back entry_mark c rest (change_fits entry_mark c refl t) e)
rec_back f Entry (stop_rec g) rest t e = false_true e
rec_back f (Stop m) (key_rec c) rest t e = false_true e
rec_back f (Stop m) (entry_rec c) rest t e = false_true e
rec_back f (Stop m) (stop_rec g) rest t e =
    stop_back m g rest (signed_of g t (and_right (iff m g.metadata_held) _ e))
    (iff_same m g.metadata_held (and_left _ _ e))

marked : (mark : ℕ) (fs : List Field) (rest : List ℕ) → mark < 2 ^ 16
    → value (take 2 (sealed (field 2 mark ∷ fs) ++ rest)) ≡ mark
unfolding total
marked mark fs rest h = field_at [] fs 2 mark 0 rest h refl

pub rec_sound : (f : ℕ) (w : Want) (r : Rec) (rest : List ℕ) → rec_typed r ≡ true → rec_formed f w r ≡ true
    → sound_at f w (rec_bytes r ++ rest) ≡ true
unfolding sound_at
rec_sound f w r rest t e =
    both_true (is_sealed (widths_at w (rec_bytes r ++ rest)) (rec_bytes r ++ rest)) _ (shut w r t e)
    (both_true (eqb (value (take 2 (rec_bytes r ++ rest))) (mark_of w)) _ (eq-eqb _ _ (mark w r t e))
    (ap (rec_formed f w) (rec_back f w r rest t e) ∙ e))
  where
    shut : (w : Want) (r : Rec) → rec_typed r ≡ true → rec_formed f w r ≡ true
        → is_sealed (widths_at w (rec_bytes r ++ rest)) (rec_bytes r ++ rest) ≡ true
    shut Key (key_rec c) t e = sealed_is (change_fields key_mark c) rest
    shut Key (entry_rec c) t e = false_true e
    shut Key (stop_rec g) t e = false_true e
    shut Entry (key_rec c) t e = false_true e
    shut Entry (entry_rec c) t e = sealed_is (change_fields entry_mark c) rest
    shut Entry (stop_rec g) t e = false_true e
    shut (Stop m) (key_rec c) t e = false_true e
    shut (Stop m) (entry_rec c) t e = false_true e
    shut (Stop m) (stop_rec g) t e =
        let s : Signed g = signed_of g t (and_right (iff m g.metadata_held) _ e) in
        ap₂ (λ (n l : ℕ). is_sealed (stop_widths n l) (rec_bytes (stop_rec g) ++ rest)) (nodes_at_lem g s rest)
        (metadata_at_lem g s rest)
        ∙ ap (λ (ws : List ℕ). is_sealed ws (rec_bytes (stop_rec g) ++ rest)) (sym (stop_widths_lem g s))
        ∙ sealed_is (fields_of (stop_rec g)) rest

    mark : (w : Want) (r : Rec) → rec_typed r ≡ true → rec_formed f w r ≡ true
        → value (take 2 (rec_bytes r ++ rest)) ≡ mark_of w
    mark Key (key_rec c) t e = marked key_mark _ rest (omega arith)
    mark Key (entry_rec c) t e = false_true e
    mark Key (stop_rec g) t e = false_true e
    mark Entry (key_rec c) t e = false_true e
    mark Entry (entry_rec c) t e = marked entry_mark _ rest (omega arith)
    mark Entry (stop_rec g) t e = false_true e
    mark (Stop m) (key_rec c) t e = false_true e
    mark (Stop m) (entry_rec c) t e = false_true e
    mark (Stop m) (stop_rec g) t e = marked stop_mark _ rest (omega arith)

pub record Counts (n l : ℕ) : Type 0 where
  pub few : n ≤ most_nodes
  pub short : l ≤ most_metadata

pub counts : (g : StopSign) → sign_formed g ≡ true → Counts g.node_count g.metadata_len
unfolding sign_formed
counts g e =
    let e₁ = and_right (leb 1 g.node_count) _ e in
    let e₂ = and_right (leb g.node_count most_nodes) _ e₁ in
    record {
      few = leb-true g.node_count most_nodes (and_left _ _ e₁);
      short = leb-true
          g.metadata_len most_metadata (and_left _ _ e₂);
    }

-- what a sound record's bytes are
pub record Sounds (f : ℕ) (w : Want) (bs : List ℕ) : Type 0 where
  pub formed : rec_formed f w (rec_at w bs) ≡ true
  pub typed : rec_typed (rec_at w bs) ≡ true
  pub bytes : bs ≡ rec_bytes (rec_at w bs) ++ drop (length (rec_bytes (rec_at w bs))) bs

module _ (f : ℕ) (w : Want) (bs : List ℕ) (e : sound_at f w bs ≡ true) where
  pub shut : is_sealed (widths_at w bs) bs ≡ true
  unfolding sound_at
  shut = and_left _ _ e

  mark_there : value (take 2 bs) ≡ mark_of w
  unfolding sound_at
  mark_there = eqb-true _ _ (and_left _ _ (and_right (is_sealed (widths_at w bs) bs) _ e))

  pub form_there : rec_formed f w (rec_at w bs) ≡ true
  unfolding sound_at
  form_there =
      and_right (eqb (value (take 2 bs)) (mark_of w)) _ (and_right (is_sealed (widths_at w bs) bs) _ e)

  same_fields : fields_of (rec_at w bs) ≡ unpacked (widths_at w bs) bs
  same_fields = go w mark_there
    where
      go : (w : Want) → value (take 2 bs) ≡ mark_of w → fields_of (rec_at w bs) ≡ unpacked (widths_at w bs) bs
      go Key m = change_same key_mark bs m
      go Entry m = change_same entry_mark bs m
      go (Stop t) m = ap fields_of (stop_there t bs) ∙ stop_same t bs m

  pub rec_long : length (rec_bytes (rec_at w bs)) ≡ total (widths_at w bs) + 2
  rec_long =
      sealed_length (fields_of (rec_at w bs))
      ∙ ap (λ (fs : List Field). total (widths fs) + 2) same_fields
      ∙ ap (λ (ws : List ℕ). total ws + 2) (unpacked_widths (widths_at w bs) bs)

  pub rec_forth : are_bytes bs ≡ true → Sounds f w bs
  rec_forth b = record {
    formed = form_there;
    typed = types w (is_fit (widths_at w bs) bs b shut) form_there;
    bytes =
        is_sealed_lem (widths_at w bs) bs b shut
        ∙ ap₂ (λ (fs : List Field) (k : ℕ). sealed fs ++ drop k bs) (sym same_fields) (sym rec_long);
  }
    where
      types : (w : Want) → fits (unpacked (widths_at w bs) bs) ≡ true → rec_formed f w (rec_at w bs) ≡ true
          → rec_typed (rec_at w bs) ≡ true
      types Key q m = change_typed_lem bs q
      types Entry q m = change_typed_lem bs q
      types (Stop t) q m =
          let c : Counts (nodes_at bs) (metadata_at bs) = counts (sign_at t bs) (and_right (iff t t) _ m) in
          ap rec_typed (stop_there t bs) ∙ stop_typed t bs q c.few c.short

-- ---- a stop-sign's soundness, as its numbers say it

laid_tail : (k n : ℕ) (ws : List ℕ) → length ws ≡ n → all_zero (drop n (laid k ws)) ≡ true
unfolding laid
laid_tail k n ws h = ap all_zero (drop_at ws (replicate (k - length ws) 0) n h) ∙ zeros_pass (k - length ws)

last_two : (a b c d e f : Bool) → e ≡ true → f ≡ true → (a && (b && (c && (d && (e && f))))) ≡ (a && (b && (c && d)))
last_two a b c d e f p q = rw (p, q) (ap (λ (t : Bool). a && (b && (c && t))) (and-true d))

there_formed : (m : Bool) (bs : List ℕ) → sign_formed (there m bs)
    ≡ (leb 1 (nodes_at bs) && (leb (nodes_at bs) most_nodes &&
    (leb (metadata_at bs) most_metadata && (m || eqb (metadata_at bs) 0))))
unfolding sign_formed
there_formed m bs =
    last_two (leb 1 (nodes_at bs)) (leb (nodes_at bs) most_nodes) (leb (metadata_at bs) most_metadata)
    (m || eqb (metadata_at bs) 0)
    (all_zero (drop (nodes_at bs) (laid most_nodes (numbers (ids m bs)))))
    (all_zero (drop (metadata_at bs) (laid most_metadata (numbers (texts m bs)))))
    (laid_tail most_nodes (nodes_at bs) (numbers (ids m bs)) (ids_length m bs))
    (laid_tail most_metadata (metadata_at bs) (numbers (texts m bs)) (texts_length m bs))

abbrev pub stop_tests : Bool → List ℕ → Bool
stop_tests m bs =
    is_sealed (stop_widths (nodes_at bs) (metadata_at bs)) bs
    && (eqb (value (take 2 bs)) stop_mark
    && (leb 1 (nodes_at bs) && (leb (nodes_at bs) most_nodes &&
    (leb (metadata_at bs) most_metadata && (m || eqb (metadata_at bs) 0)))))

pub stop_tests_lem : (f : ℕ) (m : Bool) (bs : List ℕ) → sound_at f (Stop m) bs ≡ stop_tests m bs
unfolding sound_at
stop_tests_lem f m bs =
    ap (λ (t : Bool). is_sealed (stop_widths (nodes_at bs) (metadata_at bs)) bs && (eqb (value (take 2 bs)) stop_mark && t))
    (ap (rec_formed f (Stop m)) (stop_there m bs) ∙ ap (λ (t : Bool). t && sign_formed (there m bs)) (iff_self m)
    ∙ there_formed m bs)
