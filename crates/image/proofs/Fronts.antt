-- The verdict on the first room + 1 bytes is the verdict on all.
use Rattle.words.proofs.Prelude.{arith, ◌≡◌, refl, sym, ap, ap₂, ◌∙◌, ℕ, ◌+◌, ◌-◌, ◌≤◌, Bool, true, false, ◌&&◌, ◌||◌}
use Rattle.words.proofs.Prelude.{not, eqb, ltb, ne_eqb, le-ltb, le-leb, List, [], ◌∷◌, append_assoc, ◌++◌}
use Rattle.words.proofs.Prelude.{take-append-drop, length, take, drop, length-take-le}
use mathlib.Core.Bool.{and-false}
use lib.Seq.{take-take, take-append-add}
use Rattle.words.proofs.Alls.{all_take, all_drop}
use Rattle.words.proofs.Laws.{drop-take}
use Rattle.records.specs.Big.{value, are_bytes}
use Rattle.records.specs.Sealed.{total, Field, field, unpacked, sum_of, sum_holds, is_sealed}
use Rattle.entry.specs.Limits.{largest_batch}
use Rattle.entry.specs.Guards.{Verdict, guard, first, settle}
use Rattle.model.specs.Log.{Log}
use Rattle.image.proofs.RecLaws.{false_true, rec_back, rec_sound, Sounds, rec_forth}
use Rattle.image.proofs.HeadLaws.{head_formed_lem}
use Rattle.image.proofs.Sizes.{most, most_is, most_of, run_most, wants_most}
use Rattle.image.proofs.RunLaws.{run_step, run_stop}
use Rattle.image.proofs.Theorems.{Heads, heads_of}
use Rattle.image.specs.Layout.{head_mark, Rec, rec_bytes, run_bytes, head_widths, head_size, image_room}
use Rattle.image.specs.Reading.{nth, head_from, head_at, head_formed, head_sound, wants, rec_at, floor_after, sound_at}
use Rattle.image.specs.Reading.{sound_run, run_of, run_end, whole, state_from}
use Rattle.image.specs.Calls.{image_guards, read_image}
use Rattle.image.specs.declared.Head.{Head}
use Rattle.image.specs.declared.Want.{Want}
use Rattle.records.proofs.BigLaws.{byte}

-- ---- one record, cut behind its longest

module _ (f : ℕ) (w : Want) (k : ℕ) (bs : List ℕ) (b : are_bytes bs ≡ true) (h : most w ≤ k) where
  abbrev cut : List ℕ
  cut = take k bs

  cut-bytes : are_bytes cut ≡ true
  cut-bytes = all_take byte k bs b

  -- sound before the cut, sound after it, and the same record
  front_sound : sound_at f w bs ≡ true → sound_at f w cut ≡ true
  front_sound e =
      let s : Sounds f w bs = rec_forth f w bs e b in
      let r : Rec = rec_at w bs in
      let n : ℕ = length (rec_bytes r) in
      let l : n ≤ most w = most_is f w r s.typed s.formed in
      let q : k ≡ n + (k - n) = omega arith in
      let c : cut ≡ rec_bytes r ++ take (k - n) (drop n bs) =
      ap (take k) s.bytes ∙ ap (λ (j : ℕ). take j (rec_bytes r ++ drop n bs)) q
      ∙ take-append-add (rec_bytes r) (drop n bs) (k - n) in
      ap (sound_at f w) c ∙ rec_sound f w r (take (k - n) (drop n bs)) s.typed s.formed

  sound_whole : sound_at f w cut ≡ true
      → bs ≡ rec_bytes (rec_at w cut) ++ (drop (length (rec_bytes (rec_at w cut))) cut ++ drop k bs)
  sound_whole e =
      let s : Sounds f w cut = rec_forth f w cut e cut-bytes in
      let r : Rec = rec_at w cut in
      sym (take-append-drop k bs)
      ∙ ap (λ (l : List ℕ). l ++ drop k bs) s.bytes
      ∙ append_assoc (rec_bytes r) (drop (length (rec_bytes r)) cut) (drop k bs)

  sound_again : sound_at f w cut ≡ true → sound_at f w bs ≡ true
  sound_again e =
      let s : Sounds f w cut = rec_forth f w cut e cut-bytes in
      ap (sound_at f w) (sound_whole e)
      ∙ rec_sound f w (rec_at w cut) (drop (length (rec_bytes (rec_at w cut))) cut ++ drop k bs) s.typed s.formed

  pub front_record : sound_at f w bs ≡ true → rec_at w cut ≡ rec_at w bs
  front_record e =
      let c : sound_at f w cut ≡ true = front_sound e in
      let s : Sounds f w cut = rec_forth f w cut c cut-bytes in
      sym (ap (rec_at w) (sound_whole c)
      ∙ rec_back f w (rec_at w cut) (drop (length (rec_bytes (rec_at w cut))) cut ++ drop k bs) s.typed s.formed)

  pub front_same : (t : Bool) → sound_at f w bs ≡ t → sound_at f w cut ≡ t
  front_same true e = front_sound e
  front_same false e = go (sound_at f w cut) refl
    where
      go : (u : Bool) → sound_at f w cut ≡ u → sound_at f w cut ≡ false
      go true q = false_true (sym e ∙ sound_again q)
      go false q = q

-- ---- the run

pub front_run : (ws : List Want) (f k : ℕ) (bs : List ℕ) → are_bytes bs ≡ true → most_of ws ≤ k
    → sound_run f ws (take k bs) ≡ sound_run f ws bs
unfolding most_of sound_run
front_run [] f k bs b h = refl
front_run (w ∷ ws) f k bs b h =
    go (sound_at f w bs) refl
    (λ q. front_run ws (floor_after f (rec_at w bs)) (k - length (rec_bytes (rec_at w bs)))
    (drop (length (rec_bytes (rec_at w bs))) bs)
    (all_drop byte (length (rec_bytes (rec_at w bs))) bs b) q)
  where
    r : Rec
    r = rec_at w bs

    n : ℕ
    n = length (rec_bytes r)

    go : (t : Bool) → sound_at f w bs ≡ t
        → (most_of ws ≤ k - n → sound_run (floor_after f r) ws (take (k - n) (drop n bs)) ≡ sound_run (floor_after f r) ws
        (drop n bs))
        → sound_run f (w ∷ ws) (take k bs) ≡ sound_run f (w ∷ ws) bs
    go false e rest = run_stop f w ws (take k bs) (front_same f w k bs b (omega (arith, h)) false e)
        ∙ sym (run_stop f w ws bs e)
    go true e rest =
        let s : Sounds f w bs = rec_forth f w bs e b in
        let l : n ≤ most w = most_is f w r s.typed s.formed in
        run_step f w ws (take k bs) (front_same f w k bs b (omega (arith, h)) true e)
        ∙ ap (λ (x : Rec). x ∷ sound_run (floor_after f x) ws (drop (length (rec_bytes x)) (take k bs)))
        (front_record f w k bs b (omega (arith, h)) e)
        ∙ ap (λ (y : List ℕ). r ∷ sound_run (floor_after f r) ws y) (drop-take n k bs)
        ∙ ap (λ (y : List Rec). r ∷ y) (rest (omega (arith, h, l)))
        ∙ sym (run_step f w ws bs e)

-- ---- the header

front_fields : (ws : List ℕ) (k : ℕ) (bs : List ℕ) → total ws ≤ k → unpacked ws (take k bs) ≡ unpacked ws bs
unfolding unpacked total
front_fields [] k bs h = refl
front_fields (w ∷ ws) k bs h =
    ap₂ (λ (x y : List ℕ). field w (value x) ∷ unpacked ws y) (take-take w k bs (omega arith)) (drop-take w k bs)
    ∙ ap (λ (l : List Field). field w (value (take w bs)) ∷ l) (front_fields ws (k - w) (drop w bs) (omega arith))

front_sealed : (ws : List ℕ) (k : ℕ) (bs : List ℕ) → total ws + 2 ≤ k → k ≤ length bs
    → is_sealed ws (take k bs) ≡ is_sealed ws bs
unfolding is_sealed sum_holds
front_sealed ws k bs h l =
    let n : ℕ = total ws in
    let s : take 2 (drop n (take k bs)) ≡ take 2 (drop n bs) = ap (take 2) (drop-take n k bs)
    ∙ take-take 2 (k - n) (drop n bs) (omega arith) in
    let t : take n (take k bs) ≡ take n bs = take-take n k bs (omega arith) in
    ap₂ (λ (a c : Bool). a && c)
    (le-leb (n + 2) (length (take k bs)) (omega (arith, length-take-le k bs l))
    ∙ sym (le-leb (n + 2) (length bs) (omega arith)))
    (ap₂ (λ (x y : List ℕ). eqb (value x) (sum_of y)) s t)

-- ---- all of it

record Over (j k : ℕ) (u v : Bool) : Type 0 where
  same : j ≡ k
  left : u ≡ false
  right : v ≡ false

abbrev verdict : Bool → Bool → Bool → Bool → Bool → ℕ → Verdict
verdict a b c d u k = first (guard 11 0 a ∷ guard 15 0 b ∷ guard 14 0 c ∷ guard 15 0 (not d) ∷ guard 15 k (not u) ∷ [])

answers : (a b c d u v : Bool) (j k : ℕ) (x y : Log) → (d ≡ true → Over j k u v)
    → settle (verdict a b c d u j) x ≡ settle (verdict a b c d v k) y
unfolding first
answers true b c d u v j k x y o = refl
answers false true c d u v j k x y o = refl
answers false false true d u v j k x y o = refl
answers false false false false u v j k x y o = refl
answers false false false true u v j k x y o =
    let q : Over j k u v = o refl in
    ap₂ (λ (t : Bool) (n : ℕ). settle (verdict false false false true t n) x) q.left q.same
    ∙ sym (ap (λ (t : Bool). settle (verdict false false false true t k) y) q.right)

pub front_verdict : (size : ℕ) (bs : List ℕ) → are_bytes bs ≡ true → (image_room + 1) ≤ length bs
    → read_image size (take (image_room + 1) bs) ≡ read_image size bs
unfolding image_guards read_image first total head_at run_end whole
front_verdict size bs b l =
    ap₂ (λ (x y : Bool). settle (first
    (guard 11 0 (ltb largest_batch size) ∷ guard 15 0 x ∷ guard 14 0 y ∷ guard 15 0 (not (head_sound cs)) ∷ guard 15
    (run_end (head_at cs) cs) (not (whole (head_at cs) cs)) ∷ [])) (state_from size (head_at cs) (run_of (head_at cs) cs)))
    marks formats
    ∙ ap (λ (d : Bool). settle (first
    (guard 11 0 (ltb largest_batch size) ∷ guard 15 0
    (ltb (length bs) 4 || not (eqb (value (take 2 bs)) head_mark)) ∷ guard 14 0
    (not (eqb (value (take 2 (drop 2 bs))) 1)) ∷ guard 15 0 (not d) ∷ guard 15 (run_end (head_at cs) cs)
    (not (whole (head_at cs) cs)) ∷ [])) (state_from size (head_at cs) (run_of (head_at cs) cs)))
    sounds
    ∙ answers (ltb largest_batch size) (ltb (length bs) 4 || not (eqb (value (take 2 bs)) head_mark))
    (not (eqb (value (take 2 (drop 2 bs))) 1)) (head_sound bs) (whole (head_at cs) cs) (whole (head_at bs) bs)
    (run_end (head_at cs) cs) (run_end (head_at bs) bs)
    (state_from size (head_at cs) (run_of (head_at cs) cs)) (state_from size (head_at bs) (run_of (head_at bs) bs)) over
  where
    cs : List ℕ
    cs = take (image_room + 1) bs

    long : length cs ≡ (image_room + 1)
    long = length-take-le (image_room + 1) bs l

    front : (n : ℕ) → n ≤ (image_room + 1) → take n cs ≡ take n bs
    front n h = take-take n (image_room + 1) bs h

    marks : (ltb (length cs) 4 || not (eqb (value (take 2 cs)) head_mark)) ≡
        (ltb (length bs) 4 || not (eqb (value (take 2 bs)) head_mark))
    marks =
        ap₂ (λ (x : Bool) (y : List ℕ). x || not (eqb (value y) head_mark))
        (le-ltb (length cs) 4 (omega (arith, long)) ∙ sym (le-ltb (length bs) 4 (omega arith))) (front 2 (omega arith))

    formats : not (eqb (value (take 2 (drop 2 cs))) 1) ≡ not (eqb (value (take 2 (drop 2 bs))) 1)
    formats = ap (λ (y : List ℕ). not (eqb (value y) 1))
        (ap (take 2) (drop-take 2 (image_room + 1) bs) ∙ take-take 2 ((image_room + 1) - 2) (drop 2 bs) (omega arith))

    fields : unpacked head_widths cs ≡ unpacked head_widths bs
    fields = front_fields head_widths (image_room + 1) bs (omega arith)

    heads : head_at cs ≡ head_at bs
    heads = ap head_from fields

    sounds : head_sound cs ≡ head_sound bs
    sounds = unfold head_sound in
        ap₂ (λ (x : Bool) (fs : List Field). x && (ltb (nth fs 2) 8 && head_formed (head_from fs)))
        (front_sealed head_widths (image_room + 1) bs (omega arith) l) fields

    -- behind a sound header: the same records, and something left over either way
    over : head_sound bs ≡ true → Over (run_end (head_at cs) cs) (run_end (head_at bs) bs) (whole (head_at cs) cs)
        (whole (head_at bs) bs)
    over e =
        let h : Head = head_at bs in
        let x : Heads h = heads_of h (head_formed_lem bs e) in
        let m : head_size + most_of (wants h) ≤ image_room = wants_most h x in
        let past : are_bytes (drop head_size bs) ≡ true = all_drop byte head_size bs b in
        let run : run_of (head_at cs) cs ≡ run_of (head_at bs) bs =
        ap₂ (λ (y : Head) (z : List ℕ). sound_run 0 (wants y) z) heads (drop-take head_size (image_room + 1) bs)
        ∙ front_run (wants h) 0 ((image_room + 1) - head_size) (drop head_size bs) past (omega (arith, m)) in
        let end : run_end (head_at cs) cs ≡ run_end (head_at bs) bs = ap
        (λ (rs : List Rec). head_size + length (run_bytes rs)) run in
        let small : run_end (head_at bs) bs ≤ image_room = omega
        (arith, m, run_most (wants h) 0 (drop head_size bs) past) in
        record {
          same = end;
          left =
              ap (λ (y : Bool). eqb (length (run_of (head_at cs) cs)) (length (wants (head_at cs))) && y)
              (ne_eqb (run_end (head_at cs) cs) (length cs) (λ z. omega (arith, z, long, end, small)))
              ∙ and-false (eqb (length (run_of (head_at cs) cs)) (length (wants (head_at cs))));
          right =
              ap (λ (y : Bool). eqb (length (run_of (head_at bs) bs)) (length (wants h)) && y)
              (ne_eqb (run_end (head_at bs) bs) (length bs) (λ z. omega (arith, z, l, small)))
              ∙ and-false (eqb (length (run_of (head_at bs) bs)) (length (wants h)));
        }
