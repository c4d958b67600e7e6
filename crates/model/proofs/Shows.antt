-- "the retained entries of the range, each decided exactly if its index is below decided": of every entry that a read
-- shows, by its place among those shown.
use Rattle.words.proofs.Prelude.{arith, ◌≡◌, refl, sym, ap, ◌∙◌, ℕ, ◌+◌, ◌-◌, ◌<◌, min, max, Bool, true, false, ◌||◌}
use Rattle.words.proofs.Prelude.{eqb, ltb, leb, lt-ltb, le-ltb, ltb-true, ltb-false, if◌then◌else◌, none, some, List}
use Rattle.words.proofs.Prelude.{[], length-take, length, drop, get_or}
use lib.Seq.{get_or-take, get_or-drop}
use Rattle.entry.specs.Change.{Change}
use Rattle.model.specs.{Numbers.end_of, Numbers.accepted_of, Log.Log, Log.numbers_of, Read.no_span, Read.Shown}
use Rattle.model.specs.{Read.shown, Read.marker_of, Read.empty_run, Read.full_run, Read.read_from}

-- a read that shows an entry shows a full run
full : (from to : ℕ) (s : Log) (v : Shown) → read_from from to s ≡ some v → 0 < length v.part.entries
    → v ≡ full_run from to s
unfolding read_from
full from to s v e h =
    go (eqb to 0) (leb to s.run.compacted)
    (ltb (accepted_of (numbers_of s)) to || leb (accepted_of (numbers_of s)) from) (leb to from) e
  where
    none_shown_lem : (x : Shown) → some x ≡ some v → x.part.entries ≡ [] → v ≡ full_run from to s
    none_shown_lem x q z = let w : x ≡ v = cc in
        absurd (omega (arith, ap length z, ap (λ (y : Shown). length y.part.entries) w))

    nothing : none ≡ some v → v ≡ full_run from to s
    nothing q = let z : ◌≡◌ {A = ℕ} 0 1 = cc in absurd (omega arith)

    go : (a b c d : Bool)
        → (if a then none
        else if b then some (shown (some (marker_of s.run)) no_span 0 none false)
        else if c then none
        else if d then some empty_run
        else some (full_run from to s)) ≡ some v
        → v ≡ full_run from to s
    go true b c d q = nothing q
    go false true c d q = none_shown_lem _ q refl
    go false false true d q = nothing q
    go false false false true q = none_shown_lem _ q refl
    go false false false false q = cc

module _ (from to : ℕ) (s : Log) (v : Shown) (e : read_from from to s ≡ some v) (j : ℕ)
    (h : j < length v.part.entries) where
  run : v ≡ full_run from to s
  run = full from to s v e (omega arith)

  abbrev first : ℕ
  first = max from s.run.compacted

  abbrev last : ℕ
  last = min to (end_of (numbers_of s))

  -- it lies before the end of what is shown
  inside : first + j < last
  unfolding full_run
  inside =
      let t : List Change = drop (first - s.run.compacted) s.run.retained in
      omega (arith, ap (λ (x : Shown). length x.part.entries) run, length-take (last - first) t)

  -- it is the retained entry that the part names
  pub each_held : (d : Change) → get_or v.part.entries j d ≡ get_or s.run.retained (v.part.first + j) d
  unfolding full_run
  each_held d =
      ap (λ (x : Shown). get_or x.part.entries j d) run
      ∙ get_or-take (last - first) (drop (first - s.run.compacted) s.run.retained) j d (omega (arith, inside))
      ∙ get_or-drop (first - s.run.compacted) s.run.retained j d
      ∙ sym (ap (λ (x : Shown). get_or s.run.retained (x.part.first + j) d) run)

  pub each_decided : ltb j v.decided ≡ ltb (s.run.compacted + v.part.first + j) s.marks.decided
  unfolding full_run
  each_decided =
      ap (λ (x : Shown). ltb j x.decided) run
      ∙ same (s.run.compacted + (first - s.run.compacted) + j) s.marks.decided (omega arith)
      ∙ sym (ap (λ (x : Shown). ltb (s.run.compacted + x.part.first + j) s.marks.decided) run)
    where
      same : (i d : ℕ) → i ≡ first + j → ltb j (min last d - first) ≡ ltb i d
      same i d q = go (ltb i d) refl
        where
          go : (t : Bool) → ltb i d ≡ t → ltb j (min last d - first) ≡ t
          go true p = lt-ltb j (min last d - first) (omega (arith, inside, ltb-true i d p))
          go false p = le-ltb j (min last d - first) (omega (arith, ltb-false i d p))
