-- The walk over the records behind a header: which is wanted next, and how far the sound ones reach.
use Rattle.words.proofs.Prelude.{arith, ◌≡◌, refl, sym, ap, ◌∙◌, ℕ, zero, suc, ◌+◌, ◌-◌, ◌≤◌, ◌<◌, Bool, true}
use Rattle.words.proofs.Prelude.{false, eqb, eq-eqb, ne_eqb, if◌then◌else◌, List, [], ◌∷◌, ◌++◌, length-drop}
use Rattle.words.proofs.Prelude.{length-append, drop_of_length-le, length, drop, replicate}
use lib.ListN.{length-replicate}
use lib.Seq.{drop-drop}
use mir.Val.{bool_byte}
use Rattle.std.specs.Prelude.{Option, Ok, Err}
use Rattle.std.proofs.Common.{subst}
use Rattle.std.specs.Option.{ok_or}
use Rattle.std.specs.Bool.{then_some}
use Rattle.words.proofs.Alls.{all_drop}
use Rattle.records.specs.Big.{are_bytes}
use Rattle.records.proofs.BigLaws.{byte}
use Rattle.image.specs.Layout.{head_size, Rec, key_rec, entry_rec, stop_rec, rec_bytes, run_bytes}
use Rattle.image.specs.Reading.{stop_wants, wants, rec_at, floor_after, sound_at, sound_run, run_of}
use Rattle.image.specs.Reading.{run_end, whole}
use Rattle.image.specs.Inner.{floor_of, above_after, step_at, walked}
use Rattle.image.specs.declared.walk.Step.{Step}
use Rattle.image.specs.declared.Head.{Head}
use Rattle.image.specs.declared.Want.{Want}
use Rattle.image.specs.declared.Want.TheVariants.{Key, Entry, Stop}
use Rattle.image.proofs.RecLaws.{Sounds, rec_forth}
use Rattle.image.proofs.RunLaws.{run_step, run_stop}

-- ---- what is wanted

module _ (x : Want) (l : List Want) where
  within : (n i : ℕ) → i < n → drop i (replicate n x ++ l) ≡ x ∷ drop (suc i) (replicate n x ++ l)
  within zero i h = absurd (omega arith)
  within (suc n) zero h = refl
  within (suc n) (suc i) h = within n i (omega arith)

  past : (n i : ℕ) → n ≤ i → drop i (replicate n x ++ l) ≡ drop (i - n) l
  past zero i h = let e : i ≡ i - 0 = omega arith in ap (λ (k : ℕ). drop k l) e
  past (suc n) zero h = absurd (omega arith)
  past (suc n) (suc i) h =
      let e : i - n ≡ suc i - suc n = omega arith in
      past n i (omega arith) ∙ ap (λ (k : ℕ). drop k l) e

  long : (n : ℕ) → length (replicate n x ++ l) ≡ n + length l
  long n = length-append (replicate n x) l ∙ ap (λ (k : ℕ). k + length l) (length-replicate n x)

pub flag_long : (t : Bool) → bool_byte t ≡ (if t then 1 else 0)
flag_long true = refl
flag_long false = refl

module _ (h : Head) where
  abbrev last : List Want
  last = stop_wants h.stop h.metadata

  abbrev rest : List Want
  rest = replicate h.entries Entry ++ last

  stop_long : (t m : Bool) → length (stop_wants t m) ≡ (if t then 1 else 0)
  stop_long true m = refl
  stop_long false m = refl

  pub wants_long : length (wants h) ≡ h.keys + h.entries + (if h.stop then 1 else 0)
  wants_long =
      omega (
        arith,
        long Key rest h.keys,
        long Entry last h.entries,
        stop_long h.stop h.metadata,
      )

  module _ (i : ℕ) where
    pub want_key : i < h.keys → drop i (wants h) ≡ Key ∷ drop (i + 1) (wants h)
    want_key p =
        let e : suc i ≡ i + 1 = omega arith in
        within Key rest h.keys i p ∙ ap (λ (k : ℕ). Key ∷ drop k (wants h)) e

    module _ (p : h.keys ≤ i) where
      pub want_entry : i - h.keys < h.entries → drop i (wants h) ≡ Entry ∷ drop (i + 1) (wants h)
      want_entry q =
          let e : suc (i - h.keys) ≡ i + 1 - h.keys = omega arith in
          past Key rest h.keys i p
          ∙ within Entry last h.entries (i - h.keys) q
          ∙ ap (λ (k : ℕ). Entry ∷ drop k rest) e
          ∙ ap (λ (l : List Want). Entry ∷ l) (sym (past Key rest h.keys (i + 1) (omega arith)))

      behind : (j : ℕ) → h.keys + h.entries ≤ j → drop j (wants h) ≡ drop (j - h.keys - h.entries) last
      behind j r =
          past Key rest h.keys j (omega arith) ∙ past Entry last h.entries (j - h.keys) (omega arith)

      pub want_stop : h.entries ≤ i - h.keys → i < length (wants h)
          → drop i (wants h) ≡ Stop h.metadata ∷ drop (i + 1) (wants h)
      want_stop q r =
          let z : i - h.keys - h.entries ≡ 0 = omega (arith, r, wants_long, few h.stop) in
          let o : i + 1 - h.keys - h.entries ≡ 1 = omega (arith, z, q, p) in
          behind i (omega arith)
          ∙ ap (λ (k : ℕ). drop k last) z
          ∙ one h.stop (omega (arith, r, wants_long, q, p))
          ∙ ap (λ (k : ℕ). Stop h.metadata ∷ drop k last) (sym o)
          ∙ ap (λ (l : List Want). Stop h.metadata ∷ l) (sym (behind (i + 1) (omega arith)))
        where
          few : (t : Bool) → (if t then 1 else 0) ≤ 1
          few true = omega arith
          few false = omega arith

          one : (t : Bool) → 0 < (if t then 1 else 0)
              → stop_wants t h.metadata ≡ Stop h.metadata ∷ drop 1 (stop_wants t h.metadata)
          one true k = refl
          one false k = absurd (omega arith)

-- ---- where the walk stands: after i sound records, which end at `here`, with a floor for the next key

found : (t : Bool) (x : Step) (k : ℕ) (st : Step) → ok_or (then_some t x) k ≡ Ok st → (t ≡ true) × (st ≡ x)
found true x k st e = (refl, cc)
found false x k st e = absurd (cc)

missed : (t : Bool) (x : Step) (k j : ℕ) → ok_or (then_some t x) k ≡ Err j → (t ≡ false) × (j ≡ k)
missed true x k j e = absurd (cc)
missed false x k j e = (refl, cc)

after : (above : Option ℕ) (r : Rec) → floor_after (floor_of above) r ≡ floor_of (above_after above r)
after above (key_rec c) = refl
after above (entry_rec c) = refl
after above (stop_rec g) = refl

module _ (h : Head) (s : List ℕ) where
  pub record At (i here f : ℕ) : Type 0 where
    pub end : run_end h s ≡ here + length (run_bytes (sound_run f (drop i (wants h)) (drop here s)))
    pub count : length (run_of h s) ≡ i + length (sound_run f (drop i (wants h)) (drop here s))

  pub at_start : At 0 head_size 0
  unfolding run_end
  at_start = record { end = refl; count = omega arith }

  module _ (i here : ℕ) (above : Option ℕ) (a : At i here (floor_of above)) where
    abbrev f : ℕ
    f = floor_of above

    abbrev bs : List ℕ
    bs = drop here s

    module _ (w : Want) (next : drop i (wants h) ≡ w ∷ drop (i + 1) (wants h)) where
      abbrev r : Rec
      r = rec_at w bs

      abbrev size : ℕ
      size = length (rec_bytes r)

      -- a sound record is passed
      module _ (q : sound_at f w bs ≡ true) where
        at_room : are_bytes s ≡ true → here ≤ length s → here + size ≤ length s
        at_room b p =
            let x : Sounds f w bs = rec_forth f w bs q (all_drop byte here s b) in
            omega (
              arith,
              ap length x.bytes,
              length-append (rec_bytes r) (drop size bs),
              length-drop here s,
            )

        at_next : At (i + 1) (here + size) (floor_of (above_after above r))
        unfolding run_bytes
        at_next =
            let rs : List Rec = sound_run (floor_after f r) (drop (i + 1) (wants h)) (drop (here + size) s) in
            let run : sound_run f (drop i (wants h)) bs ≡ r ∷ rs =
            ap (λ (ws : List Want). sound_run f ws bs) next
            ∙ run_step f w (drop (i + 1) (wants h)) bs q
            ∙ ap (λ (l : List ℕ). r ∷ sound_run (floor_after f r) (drop (i + 1) (wants h)) l) (drop-drop size here s) in
            let e : floor_after f r ≡ floor_of (above_after above r) = after above r in
            subst (At (i + 1) (here + size)) e (record {
              end = omega (
                arith,
                a.end,
                ap (λ (l : List Rec). length (run_bytes l)) run,
                length-append (rec_bytes r) (run_bytes rs),
              );
              count = omega (arith, a.count, ap length run);
            })

      -- and the walk ends at one that is not
      module _ (q : sound_at f w bs ≡ false) where
        none : sound_run f (drop i (wants h)) bs ≡ []
        none =
            ap (λ (ws : List Want). sound_run f ws bs) next
            ∙ run_stop f w (drop (i + 1) (wants h)) bs q

        ends : i < length (wants h) → Err here ≡ walked h s
        unfolding walked whole run_bytes
        ends p =
            let e : here ≡ run_end h s = omega (arith, a.end, ap (λ (l : List Rec). length (run_bytes l)) none) in
            let n : eqb (length (run_of h s)) (length (wants h)) ≡ false =
            ne_eqb (length (run_of h s)) (length (wants h)) (λ k. omega (arith, k, p, a.count, ap length none)) in
            rw n (ap (λ (k : ℕ). Err k) e)

      -- what the code has of that record, and what it makes of it
      module _ (o : Option Step) (is : o ≡ step_at above w bs) where
        abbrev there : Step
        there = record { size = size; above = above_after above r }

        pub passed : (st : Step) → ok_or o here ≡ Ok st → are_bytes s ≡ true → here ≤ length s
            → (here + st.size ≤ length s) × At (i + 1) (here + st.size) (floor_of st.above)
        unfolding step_at
        passed st e b p =
            let x = found (sound_at f w bs) there here st (ap (λ (u : Option Step). ok_or u here) (sym is) ∙ e) in
            rw x.1 (at_room x.0 b p, at_next x.0)

        pub stopped : (k : ℕ) → ok_or o here ≡ Err k → i < length (wants h) → Err k ≡ walked h s
        unfolding step_at
        stopped k e p =
            let x = missed (sound_at f w bs) there here k (ap (λ (u : Option Step). ok_or u here) (sym is) ∙ e) in
            rw x.1 (ends x.0 p)

    -- all that is wanted was passed
    module _ (p : length (wants h) ≡ i) where
      done : sound_run f (drop i (wants h)) (drop here s) ≡ []
      unfolding sound_run
      done =
          ap (λ (ws : List Want). sound_run f ws (drop here s))
          (drop_of_length-le (wants h) {i = i} (omega (arith, p)))

      done_end : here ≡ run_end h s
      unfolding run_bytes
      done_end = omega (arith, a.end, ap (λ (l : List Rec). length (run_bytes l)) done)

      done_count : eqb (length (run_of h s)) (length (wants h)) ≡ true
      done_count = eq-eqb (length (run_of h s)) (length (wants h)) (omega (arith, p, a.count, ap length done))

      pub done_whole : here ≡ length s → Ok tt ≡ walked h s
      unfolding walked whole
      done_whole e = rw (done_count, eq-eqb (run_end h s) (length s) (sym done_end ∙ e)) refl

      pub done_short : (here ≡ length s → ⊥) → Err here ≡ walked h s
      unfolding walked whole
      done_short e =
          rw (done_count, ne_eqb (run_end h s) (length s) (λ q. e (done_end ∙ q))) (ap (λ (k : ℕ). Err k) done_end)
