-- How a search halves the entries, and what an insert does at the spot that it finds.
use Rattle.words.proofs.Prelude.{arith, ◌≡◌, refl, sym, ap, ◌∙◌, ℕ, zero, suc, ◌+◌, ◌*◌, ◌≤◌, ◌<◌, add-one, Bool, true}
use Rattle.words.proofs.Prelude.{false, true≢false, eqb, eq-eqb, ne_eqb, eqb-true, lt-ltb, le-ltb, if◌then◌else◌}
use Rattle.words.proofs.Prelude.{List, [], ◌∷◌, drop_of_length-le, length, drop, get_or}
use native.Mathlib.Nat.{suc-add}
use Rattle.words.specs.Words.{spliced}
use Rattle.words.proofs.{Tests.Stand, Tests.below, Tests.same, Tests.above, Tests.stand, Tests.Reach, Tests.reached}
use Rattle.words.proofs.{Tests.short, Tests.reach, CodedLaws.entries_length}
use Rattle.entry.specs.{Limits.width, Change.Change, Change.change_code, Change.entries_of, Inner.change_at}
use Rattle.entry.proofs.ChangeLaws.{entry_cons}
use Rattle.snapshot.specs.{Folds.insert, Folds.rising, Inner.rank, Inner.here, Inner.spot_of}
use Rattle.std.specs.Prelude.{Ok, Err}
use Rattle.snapshot.proofs.{Folds.insert-below, Folds.insert_same, Folds.insert-above, Rising.keys_climb}

module _ (e : Change) (es : List Change) (k : ℕ) where
  pub rank_below : e.key < k → rank (e ∷ es) k ≡ suc (rank es k)
  unfolding rank
  rank_below h = rw (lt-ltb e.key k h)

  pub rank_stop : k ≤ e.key → rank (e ∷ es) k ≡ 0
  unfolding rank
  rank_stop h = rw (le-ltb e.key k h)

  pub here_below : e.key < k → here (e ∷ es) k ≡ here es k
  unfolding here
  here_below h = rw (lt-ltb e.key k h)

  pub here_stop : k ≤ e.key → here (e ∷ es) k ≡ eqb e.key k
  unfolding here
  here_stop h = rw (le-ltb e.key k h)

pub here_nil : (k : ℕ) → here [] k ≡ false
unfolding here
here_nil k = refl

-- i entries are passed: the answer for all is the answer for the rest
record Passed (es : List Change) (k i : ℕ) : Type 0 where
  pub placed : rank es k ≡ i + rank (drop i es) k
  pub found : here es k ≡ here (drop i es) k

-- the spot is from low to high, and before high where the key is there
pub record Within (es : List Change) (k low high : ℕ) : Type 0 where
  pub from : low ≤ rank es k
  pub to : rank es k ≤ high
  pub inside : here es k ≡ true → rank es k < high

-- where the entry at i is above a key, or there is none, the key's spot is up to i
before : (es : List Change) (k i : ℕ) → rank (drop i es) k ≡ 0 → here (drop i es) k ≡ false → Within es k 0 i
unfolding rank here
before es k zero r h = record {
  from = omega arith;
  to = omega (arith, r);
  inside = λ t. absurd (true≢false (sym t ∙ h));
}
before [] k (suc i) r h = record { from = omega arith; to = omega arith; inside = λ t. absurd (true≢false (sym t)) }
before (e ∷ es) k (suc i) r h = go (before es k i r h) (reach k e.key)
  where
    go : Within es k 0 i → Reach k e.key → Within (e ∷ es) k 0 (suc i)
    go w (reached l) =
        let z = rank_stop e es k l in
        record { from = omega arith; to = omega (arith, z); inside = λ t. omega (arith, z) }
    go w (short l) =
        let s = rank_below e es k l in
        record {
          from = omega arith;
          to = omega (arith, w.to, s);
          inside = λ t. omega (arith, w.inside (sym (here_below e es k l) ∙ t), s);
        }

module _ (n : ℕ) (ws : List ℕ) (k : ℕ) where
  spot_is : (t : Bool) (j : ℕ) → here (entries_of n ws) k ≡ t → rank (entries_of n ws) k ≡ j
      → (if t then Ok j else Err j) ≡ spot_of (entries_of n ws) k
  unfolding spot_of
  spot_is t j e q = rw (e, q)

  pub search_all : Within (entries_of n ws) k 0 n
  unfolding rank here
  search_all =
      let z : drop n (entries_of n ws)
      ≡ [] = drop_of_length-le (entries_of n ws) {i = n} (omega (arith, entries_length change_code n ws)) in
      before (entries_of n ws) k n (rw z) (rw z)

  pub search_end : (low high : ℕ) → Within (entries_of n ws) k low high → high ≤ low
      → Err low ≡ spot_of (entries_of n ws) k
  search_end low high w h = go (here (entries_of n ws) k) refl
    where
      go : (t : Bool) → here (entries_of n ws) k ≡ t → Err low ≡ spot_of (entries_of n ws) k
      go false q = spot_is false low q (omega (arith, w.from, w.to))
      go true q = absurd (omega (arith, w.from, w.inside q))

  module _ (i : ℕ) (h : i < n) where
    at : drop i (entries_of n ws) ≡ change_at ws i ∷ drop (suc i) (entries_of n ws)
    at = entry_cons i n ws h

    passed_more : Passed (entries_of n ws) k i → get_or ws (i * width) 0 < k → Passed (entries_of n ws) k (suc i)
    passed_more p l =
        let a : rank (drop i (entries_of n ws)) k
        ≡ suc (rank (drop (suc i) (entries_of n ws)) k) =
        rw at (rank_below (change_at ws i) (drop (suc i) (entries_of n ws)) k l) in
        let b : here (drop i (entries_of n ws)) k
        ≡ here (drop (suc i) (entries_of n ws)) k =
        rw at (here_below (change_at ws i) (drop (suc i) (entries_of n ws)) k l) in
        record { placed = omega (arith, p.placed); found = p.found ∙ b }

    module _ (l : k ≤ get_or ws (i * width) 0) where
      stops : rank (drop i (entries_of n ws)) k ≡ 0
      stops = rw at (rank_stop (change_at ws i) (drop (suc i) (entries_of n ws)) k l)

      tests : here (drop i (entries_of n ws)) k ≡ eqb (get_or ws (i * width) 0) k
      tests = rw at (here_stop (change_at ws i) (drop (suc i) (entries_of n ws)) k l)

  -- among ascending keys those before one that is not above k are below k
  module _ (up : rising (entries_of n ws) ≡ true) where
    passed : (i : ℕ) → i < n → get_or ws (i * width) 0 ≤ k → Passed (entries_of n ws) k i
    passed zero h l = record { placed = omega arith; found = refl }
    passed (suc i) h l =
        let c : get_or ws (i * width) 0 < get_or ws (suc i * width) 0 =
        rw (add-one i) at (keys_climb n ws up i (omega arith)) in
        passed_more i (omega arith) (passed i (omega arith) (omega arith)) (omega arith)

    module _ (i : ℕ) (h : i < n) where
      pub search_at : get_or ws (i * width) 0 ≡ k → Ok i ≡ spot_of (entries_of n ws) k
      search_at e =
          let p = passed i h (omega arith) in
          spot_is true i
          (p.found ∙ tests i h (omega arith) ∙ eq-eqb (get_or ws (i * width) 0) k e)
          (omega (arith, p.placed, stops i h (omega arith)))

      module _ (low high : ℕ) (w : Within (entries_of n ws) k low high) where
        pub search_above : get_or ws (i * width) 0 < k → Within (entries_of n ws) k (i + 1) high
        search_above l = record {
          from = omega (arith, (passed_more i h (passed i h (omega arith)) l).placed);
          to = w.to;
          inside = w.inside;
        }

        pub search_below : k < get_or ws (i * width) 0 → Within (entries_of n ws) k low i
        search_below l =
            let b = before (entries_of n ws) k i (stops i h (omega arith))
            (tests i h (omega arith) ∙ ne_eqb (get_or ws (i * width) 0) k (λ e. omega arith)) in
            record { from = w.from; to = b.to; inside = b.inside }

-- what a spot says
pub spot_at : (es : List Change) (k i : ℕ) → spot_of es k ≡ Ok i → (here es k ≡ true) × (rank es k ≡ i)
unfolding spot_of
spot_at es k i e = go (here es k) refl
  where
    go : (t : Bool) → here es k ≡ t → (here es k ≡ true) × (rank es k ≡ i)
    go true q = let e' : Ok (rank es k) ≡ Ok i = rw q at e in (q, cc)
    go false q = let e' : Err (rank es k) ≡ Ok i = rw q at e in let z : ◌≡◌ {A = ℕ} 0 1 = cc in absurd (omega arith)

pub spot_before : (es : List Change) (k i : ℕ) → spot_of es k ≡ Err i → (here es k ≡ false) × (rank es k ≡ i)
unfolding spot_of
spot_before es k i e = go (here es k) refl
  where
    go : (t : Bool) → here es k ≡ t → (here es k ≡ false) × (rank es k ≡ i)
    go false q = let e' : Err (rank es k) ≡ Err i = rw q at e in (q, cc)
    go true q = let e' : Ok (rank es k) ≡ Err i = rw q at e in let z : ◌≡◌ {A = ℕ} 0 1 = cc in absurd (omega arith)

no_other : (a b : ℕ) → (a ≡ b → ⊥) → eqb a b ≡ true → ⊥
no_other a b d e = d (eqb-true a b e)

-- an insert is a splice at the spot: over the entry that stands there, or before it
pub record Put (c : Change) (es : List Change) (cut : ℕ) : Type 0 where
  pub spliced_is : insert c es ≡ spliced (rank es c.key) cut (c ∷ []) es
  pub length_is : length (insert c es) + cut ≡ suc (length es)
  pub inside : rank es c.key + cut ≤ length es

pub insert_over : (c : Change) (es : List Change) → here es c.key ≡ true → Put c es 1
insert_over c [] h = let e : false ≡ true = sym (here_nil c.key) ∙ h in let z : ◌≡◌ {A = ℕ} 0 1 = cc in
    absurd (omega arith)
insert_over c (d ∷ es) h = by (insert_over c es) (stand c.key d.key)
  where
    by : (here es c.key ≡ true → Put c es 1) → Stand c.key d.key → Put c (d ∷ es) 1
    by ih (below x) =
        absurd (no_other d.key c.key (λ q. omega arith) (sym (here_stop d es c.key (omega arith)) ∙ h))
    by ih (same x) =
        let p : rank (d ∷ es) c.key ≡ 0 = rank_stop d es c.key (omega arith) in
        record {
          spliced_is = rw (p, insert_same c d es x);
          length_is = rw (insert_same c d es x) (omega arith);
          inside = rw p (omega arith);
        }
    by ih (above x) =
        let p : rank (d ∷ es) c.key ≡ suc (rank es c.key) = rank_below d es c.key x in
        let i = ih (sym (here_below d es c.key x) ∙ h) in
        record {
          spliced_is = rw (p, insert-above c d es x, suc-add (rank es c.key) 1)
              (ap (λ (l : List Change). d ∷ l) i.spliced_is);
          length_is = rw (insert-above c d es x) (omega (arith, i.length_is));
          inside = rw p (omega (arith, i.inside));
        }

pub insert_into : (c : Change) (es : List Change) → here es c.key ≡ false → Put c es 0
insert_into c [] h = record {
  spliced_is = unfold rank insert in refl;
  length_is = unfold insert in omega arith;
  inside = unfold rank in omega arith;
}
insert_into c (d ∷ es) h = by (insert_into c es) (stand c.key d.key)
  where
    by : (here es c.key ≡ false → Put c es 0) → Stand c.key d.key → Put c (d ∷ es) 0
    by ih (below x) =
        let p : rank (d ∷ es) c.key ≡ 0 = rank_stop d es c.key (omega arith) in
        record {
          spliced_is = rw (p, insert-below c d es x);
          length_is = rw (insert-below c d es x) (omega arith);
          inside = rw p (omega arith);
        }
    by ih (same x) =
        let q : d.key ≡ c.key = sym x in
        let t : true ≡ false = sym (here_stop d es c.key (omega arith) ∙ eq-eqb d.key c.key q) ∙ h in
        let z : ◌≡◌ {A = ℕ} 0 1 = cc in
        absurd (omega arith)
    by ih (above x) =
        let p : rank (d ∷ es) c.key ≡ suc (rank es c.key) = rank_below d es c.key x in
        let i = ih (sym (here_below d es c.key x) ∙ h) in
        record {
          spliced_is = rw (p, insert-above c d es x, suc-add (rank es c.key) 0)
              (ap (λ (l : List Change). d ∷ l) i.spliced_is);
          length_is = rw (insert-above c d es x) (omega (arith, i.length_is));
          inside = rw p (omega (arith, i.inside));
        }

pub insert_grows : (c : Change) (es : List Change) → length es ≤ length (insert c es)
insert_grows c es = go (here es c.key) refl
  where
    go : (t : Bool) → here es c.key ≡ t → length es ≤ length (insert c es)
    go true q = omega (arith, (insert_over c es q).length_is)
    go false q = omega (arith, (insert_into c es q).length_is)

-- a key that is there stands at an entry
pub spot_inside : (n : ℕ) (ws : List ℕ) (k i : ℕ) → Ok i ≡ spot_of (entries_of n ws) k → i < n
spot_inside n ws k i e =
    let at = spot_at (entries_of n ws) k i (sym e) in
    omega (arith, (search_all n ws k).inside at.0, at.1)
