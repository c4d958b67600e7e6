-- A stop-sign's parts, put and loaded.
use Rattle.words.proofs.Prelude.{arith, ◌≡◌, refl, sym, ap, ap₂, ◌∙◌, ℕ, zero, suc, ◌+◌, ◌-◌, ◌*◌, ◌≤◌, Bool, true}
use Rattle.words.proofs.Prelude.{leb-true, List, [], ◌∷◌, append_assoc, ◌++◌, map, length-drop, length-append}
use Rattle.words.proofs.Prelude.{length-map, length, take, drop, replicate, length-take-le}
use lib.Seq.{drop-drop}
use Rattle.words.specs.All.{all_of}
use Rattle.words.specs.Words.{laid, spliced}
use Rattle.words.proofs.Tests.{and_left, and_right}
use Rattle.records.specs.Big.{big, value}
use Rattle.records.specs.Sealed.{total, Field, field, zipped, narrow, sum_of, packed, unpacked, sealed, is_sealed}
use Rattle.records.specs.Sealed.{numbers}
use Rattle.records.proofs.SealedLaws.{seal_length, packed_length, packed_append, widths_map, total_run, run_length}
use Rattle.records.proofs.SealedLaws.{singles}
use Rattle.records.proofs.BigLaws.{big_length}
use Rattle.records.proofs.Splices.{splice_next, splice_sealed}
use Rattle.entry.specs.Limits.{most_nodes, most_metadata}
use Rattle.entry.specs.declared.StopSign.{StopSign}
use Rattle.image.specs.Layout.{stop_mark, stop_fields, stop_widths, stop_size}
use Rattle.image.specs.Reading.{nodes_at, metadata_at, sign_at, iff, sound_at}
use Rattle.image.specs.declared.Want.TheVariants.{Stop}
use Rattle.image.proofs.RecLaws.{Counts, counts, shut, form_there, sign_there_lem, past, ids, rest, texts, rest-is}
use Rattle.image.proofs.Puts.{zipped_run}
use Rattle.image.proofs.Stops.{stop_total}

-- ---- runs of one number

module _ {A : Type 0} (x : A) where
  pub take_run : (n k : ℕ) → n ≤ k → take n (replicate k x) ≡ replicate n x
  take_run zero k h = refl
  take_run (suc n) zero h = absurd (omega arith)
  take_run (suc n) (suc k) h = ap (λ (l : List A). x ∷ l) (take_run n k (omega arith))

  drop_run : (n k : ℕ) → n ≤ k → drop n (replicate k x) ≡ replicate (k - n) x
  drop_run zero k h = let e : k ≡ k - 0 = omega arith in ap (λ (j : ℕ). replicate j x) e
  drop_run (suc n) zero h = absurd (omega arith)
  drop_run (suc n) (suc k) h =
      let e : k - n ≡ suc k - suc n = omega arith in
      drop_run n k (omega arith) ∙ ap (λ (j : ℕ). replicate j x) e

pub narrow_run : (n : ℕ) → narrow (replicate n 8) ≡ true
unfolding all_of
narrow_run zero = refl
narrow_run (suc n) = narrow_run n

pub eights_total : (n : ℕ) → n ≤ most_nodes → total (take n (replicate most_nodes 8)) ≡ n * 8
eights_total n h = ap total (take_run 8 n most_nodes h) ∙ total_run 8 n

pub eights_narrow : (n : ℕ) → n ≤ most_nodes → narrow (take n (replicate most_nodes 8)) ≡ true
eights_narrow n h = ap narrow (take_run 8 n most_nodes h) ∙ narrow_run n

pub same_count : (n : ℕ) (a b : List ℕ) → n ≤ length a → n ≤ length b → length (take n a) ≡ length (take n b)
same_count n a b h k = length-take-le n a h ∙ sym (length-take-le n b k)

-- ---- put

pub nodes_put : (s next nodes : List ℕ) (at : ℕ) → length nodes ≤ most_nodes
    → next ≡ spliced at (total (take (length nodes) (replicate most_nodes 8)))
    (packed (zipped (take (length nodes) (replicate most_nodes 8)) nodes)) s
    → next ≡ spliced at (length nodes * 8) (packed (map (field 8) nodes)) s
nodes_put s next nodes at h e =
    e
    ∙ ap (λ (ws : List ℕ). spliced at (total ws) (packed (zipped ws nodes)) s) (take_run 8 (length nodes) most_nodes h)
    ∙ ap₂ (λ (k : ℕ) (fs : List Field). spliced at k (packed fs) s) (total_run 8 (length nodes))
    (zipped_run 8 nodes (length nodes) refl)

module _ (g : StopSign) (c : Counts g.node_count g.metadata_len) (long : length g.nodes ≡ most_nodes)
    (wide : length g.metadata ≡ most_metadata) where
  abbrev n : ℕ
  n = g.node_count

  abbrev l : ℕ
  l = g.metadata_len

  abbrev front : List Field
  front = field 2 stop_mark ∷ field 4 g.config_id ∷ field 1 n ∷ []

  abbrev nodes : List Field
  nodes = map (field 8) (take n g.nodes)

  abbrev bytes : List Field
  bytes = map (field 1) (take l g.metadata)

  nodes_long : length (packed nodes) ≡ n * 8
  nodes_long =
      packed_length nodes
      ∙ ap total (widths_map 8 (take n g.nodes))
      ∙ total_run 8 (length (take n g.nodes))
      ∙ ap (λ (k : ℕ). k * 8) (length-take-le n g.nodes (omega (arith, c.few, long)))

  bytes_long : length (packed bytes) ≡ l
  bytes_long =
      let e : l * 1 ≡ l = omega arith in
      packed_length bytes
      ∙ ap total (widths_map 1 (take l g.metadata))
      ∙ total_run 1 (length (take l g.metadata))
      ∙ ap (λ (k : ℕ). k * 1) (length-take-le l g.metadata (omega (arith, c.short, wide)))
      ∙ e

  front_long : length (packed front) ≡ 7
  unfolding total
  front_long = packed_length front

  head : List ℕ
  head = packed front ++ packed nodes

  head_long : length head ≡ 7 + n * 8
  unfolding head
  head_long = omega (arith, length-append (packed front) (packed nodes), front_long, nodes_long)

  fields_are : packed (stop_fields g) ≡ head ++ (big 1 l ++ packed bytes)
  unfolding head packed
  fields_are =
      packed_append front (nodes ++ (field 1 l ∷ bytes))
      ∙ ap (λ (x : List ℕ). packed front ++ x) (packed_append nodes (field 1 l ∷ bytes))
      ∙ sym (append_assoc (packed front) (packed nodes) (big 1 l ++ packed bytes))

  fields_long : length (packed (stop_fields g)) ≡ 8 + n * 8 + l
  fields_long =
      omega (
        arith,
        ap length fields_are,
        length-append head (big 1 l ++ packed bytes),
        length-append (big 1 l) (packed bytes),
        head_long,
        big_length 1 l,
        bytes_long,
      )

  pub stop_long : length (sealed (stop_fields g)) ≡ stop_size n l
  stop_long = seal_length (packed (stop_fields g)) ∙ omega (arith, fields_long)

  pub stop_put : (s : List ℕ) (at : ℕ) → at + stop_size n l ≤ length s → (s₁ s₂ s₃ s₄ s₅ : List ℕ)
      → s₁ ≡ spliced at 7 (packed front) s → s₂ ≡ spliced (at + 7) (n * 8) (packed nodes) s₁
      → s₃ ≡ spliced (at + (7 + n * 8)) 1 (big 1 l) s₂ → s₄ ≡ spliced (at + (7 + n * 8) + 1) l (packed bytes) s₃
      → s₅ ≡ spliced (at + (8 + n * 8 + l)) 2 (big 2 (sum_of (take (8 + n * 8 + l) (drop at s₄)))) s₄
      → s₅ ≡ spliced at (stop_size n l) (sealed (stop_fields g)) s
  unfolding head
  stop_put s at room s₁ s₂ s₃ s₄ s₅ p q r t u =
      let k : ℕ = 7 + n * 8 in
      let a : at + k + 1 ≡ at + (k + 1) = omega arith in
      let b : k + 1 + l ≡ 8 + n * 8 + l = omega arith in
      let e₂ : s₂ ≡ spliced at k head s =
      q
      ∙ ap (spliced (at + 7) (n * 8) (packed nodes)) p
      ∙ splice_next s at 7 (packed front) front_long (omega arith) (n * 8) (packed nodes) in
      let e₃ : s₃ ≡ spliced at (k + 1) (head ++ big 1 l) s =
      r
      ∙ ap (spliced (at + k) 1 (big 1 l)) e₂
      ∙ splice_next s at k head head_long (omega arith) 1 (big 1 l) in
      let e₄ : s₄ ≡ spliced at (8 + n * 8 + l) (packed (stop_fields g)) s =
      t
      ∙ ap₂ (λ (i : ℕ) (x : List ℕ). spliced i l (packed bytes) x) a e₃
      ∙ splice_next s at (k + 1) (head ++ big 1 l)
      (omega (arith, length-append head (big 1 l), head_long, big_length 1 l)) (omega arith) l (packed bytes)
      ∙ ap₂ (λ (i : ℕ) (x : List ℕ). spliced at i x s) b
      (append_assoc head (big 1 l) (packed bytes) ∙ sym fields_are) in
      let z : 8 + n * 8 + l + 2 ≡ stop_size n l = omega arith in
      splice_sealed s at (8 + n * 8 + l) (packed (stop_fields g)) fields_long (omega arith) s₄ s₅ e₄ u
      ∙ ap (λ (i : ℕ). spliced at i (sealed (stop_fields g)) s) z

-- ---- loaded

pub laid_front : (k n : ℕ) (ws : List ℕ) → length ws ≡ n → n ≤ k → ws ++ drop n (replicate k 0) ≡ laid k ws
unfolding laid
laid_front k n ws e h =
    ap (λ (l : List ℕ). ws ++ l) (drop_run 0 n k h) ∙ ap (λ (j : ℕ). ws ++ replicate (k - j) 0) (sym e)

pub nodes_got : (s got : List ℕ) (at n : ℕ) → n ≤ most_nodes
    → got ≡ numbers (unpacked (take n (replicate most_nodes 8)) (drop at s))
    → got ++ drop n (replicate most_nodes 0) ≡ laid most_nodes (numbers (unpacked (replicate n 8) (drop at s)))
nodes_got s got at n h e =
    let g : got ≡ numbers (unpacked (replicate n 8) (drop at s)) =
    e ∙ ap (λ (ws : List ℕ). numbers (unpacked ws (drop at s))) (take_run 8 n most_nodes h) in
    laid_front most_nodes n got (ap length g
    ∙ length-map (unpacked (replicate n 8) (drop at s)) (λ (f : Field). f.number) ∙ run_length 8 n (drop at s)) h
    ∙ ap (laid most_nodes) g

pub metadata_got : (s got : List ℕ) (at n j : ℕ) → n ≤ most_metadata → at + n ≤ length s → j ≡ n
    → got ≡ take j (drop at s)
    → got ++ drop n (replicate most_metadata 0) ≡ laid most_metadata (take n (drop at s))
metadata_got s got at n j h room i q =
    let l : length (take n (drop at s)) ≡ n = length-take-le n (drop at s) (simp length-drop (omega arith)) in
    ap (λ (x : List ℕ). x ++ drop n (replicate most_metadata 0))
    (q ∙ ap (λ (y : ℕ). take y (drop at s)) i)
    ∙ laid_front most_metadata n (take n (drop at s)) l h

module _ (m : Bool) (s : List ℕ) (at : ℕ) (h : at ≤ length s) (e : sound_at 0 (Stop m) (drop at s) ≡ true) where
  abbrev bs : List ℕ
  bs = drop at s

  pub stop_counts : Counts (nodes_at bs) (metadata_at bs)
  stop_counts = counts (sign_at m bs) (and_right (iff m m) _ (form_there 0 (Stop m) bs e))

  pub stop_room : at + stop_size (nodes_at bs) (metadata_at bs) ≤ length s
  unfolding is_sealed
  stop_room =
      omega (
        arith,
        h,
        stop_total (nodes_at bs) (metadata_at bs),
        leb-true (total (stop_widths (nodes_at bs) (metadata_at bs)) + 2) (length bs)
            (and_left _ _ (shut 0 (Stop m) bs e)),
        length-drop at s,
      )

  pub sign_loaded : (id n l : ℕ) (ns ms : List ℕ) → id ≡ value (take 4 (drop (at + 2) s)) → n ≡ nodes_at bs
      → l ≡ metadata_at bs → ns ≡ laid most_nodes (numbers (unpacked (replicate n 8) (drop (at + 7) s)))
      → ms ≡ laid most_metadata (take l (drop (at + (7 + n * 8) + 1) s))
      → ◌≡◌ {A = StopSign} (record {
        config_id = id;
        node_count = n;
        nodes = ns;
        metadata_held = m;
        metadata_len = l;
        metadata = ms;
      }) (sign_at m bs)
  sign_loaded id n l ns ms p q r t u =
      let p' : id ≡ value (take 4 (drop 2 bs)) = p ∙ ap (λ (x : List ℕ). value (take 4 x)) (sym (drop-drop 2 at s)) in
      let z : drop (at + 7) s ≡ past m bs =
      sym (drop-drop 7 at s) ∙ sym (ap (drop 1) (drop-drop 4 2 bs) ∙ drop-drop 1 6 bs) in
      let t' : ns ≡ laid most_nodes (numbers (ids m bs)) =
      t ∙ ap₂ (λ (k : ℕ) (x : List ℕ). laid most_nodes (numbers (unpacked (replicate k 8) x))) q z in
      let y : drop (at + (7 + n * 8) + 1) s ≡ drop 1 (rest m bs) =
      ap (λ (k : ℕ). drop (at + (7 + k * 8) + 1) s) q
      ∙ sym (ap (drop 1) (rest-is m bs ∙ drop-drop (7 + nodes_at bs * 8) at s)
      ∙ drop-drop 1 (at + (7 + nodes_at bs * 8)) s) in
      let u' : ms ≡ laid most_metadata (numbers (texts m bs)) =
      u
      ∙ ap₂ (λ (k : ℕ) (x : List ℕ). laid most_metadata (take k x)) r y
      ∙ ap (laid most_metadata) (sym (singles (metadata_at bs) (drop 1 (rest m bs)) room)) in
      rw (p', q, r, t', u') (sym (sign_there_lem m bs))
    where
      room : metadata_at bs ≤ length (drop 1 (rest m bs))
      room =
          omega (
            arith,
            stop_room,
            ap length (rest-is m bs),
            length-drop 1 (rest m bs),
            length-drop (7 + nodes_at bs * 8) bs,
            length-drop at s,
          )
