-- How long records, runs and images can be.
use Rattle.words.proofs.Prelude.{arith, ◌≡◌, refl, ap, ◌∙◌, ℕ, zero, suc, ◌+◌, ◌*◌, ◌≤◌, Bool, true, false, List, []}
use Rattle.words.proofs.Prelude.{◌∷◌, append-nil, ◌++◌, length-append, length, drop, replicate}
use native.Mathlib.Nat.{zero-mul, suc-mul}
use Rattle.words.specs.All.{all_of}
use Rattle.words.proofs.Tests.{and_right}
use Rattle.words.proofs.Alls.{all_join, all_drop}
use Rattle.records.specs.Big.{big, are_bytes}
use Rattle.records.specs.Sealed.{sum_of, Field, packed, sealed}
use Rattle.records.proofs.BigLaws.{big_bytes, byte}
use Rattle.records.proofs.SealedLaws.{packed_bytes}
use Rattle.entry.specs.Limits.{most_nodes, most_metadata}
use Rattle.model.specs.Log.{Log, well_formed}
use Rattle.model.proofs.Forms.{Formed, formed_of}
use Rattle.image.specs.Layout.{key_mark, entry_mark, head_fields, head_size, change_size, stop_size, image_room, Rec}
use Rattle.image.specs.Layout.{key_rec, entry_rec, stop_rec, fields_of, rec_bytes, run_bytes}
use Rattle.image.specs.Image.{head_of, recs_of, image_of}
use Rattle.image.specs.Reading.{iff, stop_wants, wants, rec_at, floor_after, rec_formed, sound_at, sound_run}
use Rattle.image.specs.Typed.{Typed}
use Rattle.image.specs.declared.Head.{Head}
use Rattle.image.specs.declared.Want.{Want}
use Rattle.image.specs.declared.Want.TheVariants.{Key, Entry, Stop}
use Rattle.image.proofs.RecLaws.{false_true, rec_typed, Signed, signed_of, Sounds, rec_forth}
use Rattle.image.proofs.RunLaws.{run_back, run_step, run_stop}
use Rattle.image.proofs.HeadLaws.{head_length}
use Rattle.image.proofs.Puts.{change_long}
use Rattle.image.proofs.Signs.{stop_long}
use Rattle.image.proofs.Theorems.{Heads, heads_of, head_form, rec_match, rec_types}

-- ---- how long a wanted record can be

abbrev pub most : Want → ℕ
most Key = change_size
most Entry = change_size
most (Stop m) = stop_size most_nodes most_metadata

pub most_is : (f : ℕ) (w : Want) (r : Rec) → rec_typed r ≡ true → rec_formed f w r ≡ true → length (rec_bytes r) ≤ most w
most_is f Key (key_rec c) t e = omega (arith, change_long key_mark c)
most_is f Key (entry_rec c) t e = false_true e
most_is f Key (stop_rec g) t e = false_true e
most_is f Entry (key_rec c) t e = false_true e
most_is f Entry (entry_rec c) t e = omega (arith, change_long entry_mark c)
most_is f Entry (stop_rec g) t e = false_true e
most_is f (Stop m) (key_rec c) t e = false_true e
most_is f (Stop m) (entry_rec c) t e = false_true e
most_is f (Stop m) (stop_rec g) t e =
    let s : Signed g = signed_of g t (and_right (iff m g.metadata_held) _ e) in
    omega (arith, stop_long g (record { few = s.most; short = s.bytes }) s.long s.wide, s.most, s.bytes)

unfoldable pub most_of : List Want → ℕ
most_of [] = 0
most_of (w ∷ ws) = most w + most_of ws

-- how long a run can be
pub run_most : (ws : List Want) (f : ℕ) (bs : List ℕ) → are_bytes bs ≡ true
    → length (run_bytes (sound_run f ws bs)) ≤ most_of ws
unfolding most_of sound_run run_bytes
run_most [] f bs b = omega arith
run_most (w ∷ ws) f bs b =
    go (sound_at f w bs) refl
    (run_most ws (floor_after f (rec_at w bs)) (drop (length (rec_bytes (rec_at w bs))) bs)
    (all_drop byte (length (rec_bytes (rec_at w bs))) bs b))
  where
    r : Rec
    r = rec_at w bs

    n : ℕ
    n = length (rec_bytes r)

    go : (t : Bool) → sound_at f w bs ≡ t → length (run_bytes (sound_run (floor_after f r) ws (drop n bs))) ≤ most_of ws
        → length (run_bytes (sound_run f (w ∷ ws) bs)) ≤ most_of (w ∷ ws)
    go false e rest = let z : length (run_bytes (sound_run f (w ∷ ws) bs)) ≡ 0 = ap
        (λ (l : List Rec). length (run_bytes l)) (run_stop f w ws bs e) in omega (arith, z)
    go true e rest =
        let s : Sounds f w bs = rec_forth f w bs e b in
        let l : n ≤ most w = most_is f w r s.typed s.formed in
        let z : length (run_bytes (sound_run f (w ∷ ws) bs)) ≡ n + length (run_bytes (sound_run (floor_after f r) ws (drop n bs))) =
        ap (λ (x : List Rec). length (run_bytes x)) (run_step f w ws bs e)
        ∙ length-append (rec_bytes r) (run_bytes (sound_run (floor_after f r) ws (drop n bs))) in
        omega (arith, z, l, rest)

most_run : (w : Want) (n : ℕ) (ws : List Want) → most_of (replicate n w ++ ws) ≡ n * most w + most_of ws
unfolding most_of
most_run w zero ws = omega (arith, zero-mul (most w))
most_run w (suc n) ws = omega (arith, most_run w n ws, suc-mul n (most w))

most_stop : (t m : Bool) → most_of (stop_wants t m) ≤ most (Stop m)
unfolding most_of
most_stop true m = omega arith
most_stop false m = omega arith

pub wants_most : (h : Head) → Heads h → head_size + most_of (wants h) ≤ image_room
wants_most h x =
    omega (
      arith,
      most_run Key h.keys (replicate h.entries Entry ++ stop_wants h.stop h.metadata),
      most_run Entry h.entries (stop_wants h.stop h.metadata),
      most_stop h.stop h.metadata,
      x.keys,
      x.numbers.room,
    )

-- every element is a byte
sealed_bytes : (fs : List Field) → are_bytes (sealed fs) ≡ true
sealed_bytes fs = all_join byte (packed fs) (big 2 (sum_of (packed fs))) (packed_bytes fs)
    (big_bytes 2 (sum_of (packed fs)))

run_bytes_lem : (rs : List Rec) → are_bytes (run_bytes rs) ≡ true
unfolding run_bytes all_of
run_bytes_lem [] = refl
run_bytes_lem (r ∷ rs) = all_join byte (rec_bytes r) (run_bytes rs) (sealed_bytes (fields_of r)) (run_bytes_lem rs)

pub image_bytes : (s : Log) → are_bytes (image_of s) ≡ true
unfolding image_of
image_bytes s = all_join byte (sealed (head_fields (head_of s))) (run_bytes (recs_of s))
    (sealed_bytes (head_fields (head_of s))) (run_bytes_lem (recs_of s))

-- no image is longer than the room
pub image_room_lem : (s : Log) → well_formed s ≡ true → Typed s → length (image_of s) ≤ image_room
unfolding image_of
image_room_lem s w t =
    let f : Formed s = formed_of s w in
    let h : Head = head_of s in
    let rs : List Rec = recs_of s in
    let bs : List ℕ = run_bytes rs ++ [] in
    let again : sound_run 0 (wants h) bs ≡ rs = run_back (wants h) rs 0 [] (rec_match s f) (rec_types s f t) in
    omega (
      arith,
      length-append (sealed (head_fields h)) (run_bytes rs),
      head_length h,
      ap (λ (l : List Rec). length (run_bytes l)) again,
      run_most (wants h) 0 bs (ap are_bytes (append-nil (run_bytes rs)) ∙ run_bytes_lem rs),
      wants_most h (heads_of h (head_form s f)),
    )
