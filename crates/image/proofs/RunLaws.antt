-- The leading sound records: what was written is there again, and what is there was written.
use Rattle.words.proofs.Prelude.{arith, ◌≡◌, refl, sym, ap, ap₂, ◌∙◌, ℕ, suc, ◌+◌, Bool, true, false, ◌&&◌}
use Rattle.words.proofs.Prelude.{if◌then◌else◌, List, [], ◌∷◌, append_assoc, ◌++◌, length-append, length, drop}
use lib.Seq.{drop-append_seam, drop-drop}
use Rattle.words.specs.All.{all_of}
use Rattle.words.proofs.Tests.{and_left, and_right, both_true}
use Rattle.words.proofs.Alls.{all_head, all_tail, all_drop}
use Rattle.records.specs.Big.{are_bytes}
use Rattle.image.proofs.RecLaws.{false_true, rec_typed, rec_back, rec_sound, Sounds, rec_forth}
use Rattle.image.specs.Layout.{Rec, rec_bytes, run_bytes}
use Rattle.image.specs.Reading.{rec_at, floor_after, rec_formed, sound_at, sound_run}
use Rattle.image.specs.declared.Want.{Want}
use Rattle.records.proofs.BigLaws.{byte}

-- whether some records are those that are wanted, each in form
unfoldable pub matches : ℕ → List Want → List Rec → Bool
matches f [] [] = true
matches f [] (r ∷ rs) = false
matches f (w ∷ ws) [] = false
matches f (w ∷ ws) (r ∷ rs) = rec_formed f w r && matches (floor_after f r) ws rs

pub run_back : (ws : List Want) (rs : List Rec) (f : ℕ) (rest : List ℕ) → matches f ws rs ≡ true
    → all_of rec_typed rs ≡ true
    → sound_run f ws (run_bytes rs ++ rest) ≡ rs
unfolding matches run_bytes sound_run
run_back [] [] f rest m t = refl
run_back [] (r ∷ rs) f rest m t = false_true m
run_back (w ∷ ws) [] f rest m t = false_true m
run_back (w ∷ ws) (r ∷ rs) f rest m t =
    let e : rec_formed f w r ≡ true = and_left _ _ m in
    let q : rec_typed r ≡ true = all_head rec_typed r rs t in
    let more : List ℕ = run_bytes rs ++ rest in
    let bs : List ℕ = rec_bytes r ++ more in
    ap (λ (l : List ℕ). if sound_at f w l then rec_at w l ∷ sound_run (floor_after f (rec_at w l)) ws
    (drop (length (rec_bytes (rec_at w l))) l) else [])
    (append_assoc (rec_bytes r) (run_bytes rs) rest)
    ∙ ap₂ (λ (b : Bool) (x : Rec). if b then x ∷ sound_run (floor_after f x) ws (drop (length (rec_bytes x)) bs) else [])
    (rec_sound f w r more q e) (rec_back f w r more q e)
    ∙ ap (λ (l : List ℕ). r ∷ sound_run (floor_after f r) ws l) (drop-append_seam (rec_bytes r) more)
    ∙ ap (λ (l : List Rec). r ∷ l)
    (run_back ws rs (floor_after f r) rest (and_right (rec_formed f w r) _ m) (all_tail rec_typed r rs t))

-- one more record, or the end of the run
pub run_step : (f : ℕ) (w : Want) (ws : List Want) (bs : List ℕ) → sound_at f w bs ≡ true
    → sound_run f (w ∷ ws) bs
    ≡ rec_at w bs ∷ sound_run (floor_after f (rec_at w bs)) ws (drop (length (rec_bytes (rec_at w bs))) bs)
unfolding sound_run
run_step f w ws bs e = rw e

pub run_stop : (f : ℕ) (w : Want) (ws : List Want) (bs : List ℕ) → sound_at f w bs ≡ false → sound_run f (w ∷ ws) bs ≡ []
unfolding sound_run
run_stop f w ws bs e = rw e

-- of any bytes
pub record Runs (f : ℕ) (ws : List Want) (bs : List ℕ) : Type 0 where
  pub bytes : bs ≡ run_bytes (sound_run f ws bs) ++ drop (length (run_bytes (sound_run f ws bs))) bs
  pub typed : all_of rec_typed (sound_run f ws bs) ≡ true
  pub all : length (sound_run f ws bs) ≡ length ws → matches f ws (sound_run f ws bs) ≡ true

pub run_forth : (ws : List Want) (f : ℕ) (bs : List ℕ) → are_bytes bs ≡ true → Runs f ws bs
unfolding matches run_bytes sound_run all_of
run_forth [] f bs b = record { bytes = refl; typed = refl; all = λ h. refl }
run_forth (w ∷ ws) f bs b =
    go (sound_at f w bs) refl (run_forth ws (floor_after f (rec_at w bs)) (drop (length (rec_bytes (rec_at w bs))) bs)
    (all_drop byte (length (rec_bytes (rec_at w bs))) bs b))
  where
    go : (t : Bool) → sound_at f w bs ≡ t
        → Runs (floor_after f (rec_at w bs)) ws (drop (length (rec_bytes (rec_at w bs))) bs) → Runs f (w ∷ ws) bs
    go false e r = record {
      bytes = ap (λ (rs : List Rec). run_bytes rs ++ drop (length (run_bytes rs)) bs) (sym (run_stop f w ws bs e));
      typed = ap (all_of rec_typed) (run_stop f w ws bs e);
      all = λ h. absurd (let z : ◌≡◌ {A = ℕ} 0 (suc (length ws)) = ap length (sym (run_stop f w ws bs e))
          ∙ h in omega arith);
    }
    go true e r =
        let x : Rec = rec_at w bs in
        let n : ℕ = length (rec_bytes x) in
        let rs : List Rec = sound_run (floor_after f x) ws (drop n bs) in
        let s : Sounds f w bs = rec_forth f w bs e b in
        let k : length (rec_bytes x ++ run_bytes rs) ≡ n + length (run_bytes rs) = length-append (rec_bytes x)
        (run_bytes rs) in
        record {
          bytes =
              s.bytes
              ∙ ap (λ (l : List ℕ). rec_bytes x ++ l)
              (r.bytes ∙ ap (λ (l : List ℕ). run_bytes rs ++ l) (drop-drop (length (run_bytes rs)) n bs))
              ∙ sym (append_assoc (rec_bytes x) (run_bytes rs) (drop (n + length (run_bytes rs)) bs))
              ∙ ap (λ (j : ℕ). rec_bytes x ++ run_bytes rs ++ drop j bs) (sym k)
              ∙ ap (λ (l : List Rec). run_bytes l ++ drop (length (run_bytes l)) bs) (sym (run_step f w ws bs e));
          typed = ap (all_of rec_typed) (run_step f w ws bs e) ∙ both_true (rec_typed x) _ s.typed r.typed;
          all = λ h.
              let z : suc (length rs) ≡ suc (length ws) = ap length (sym (run_step f w ws bs e)) ∙ h in
              ap (matches f (w ∷ ws)) (run_step f w ws bs e)
              ∙ both_true (rec_formed f w x) _ s.formed (r.all (omega arith));
        }
