-- Records put one after the other.
use Rattle.words.proofs.Prelude.{arith, ◌≡◌, refl, sym, ap, ap₂, ◌∙◌, ℕ, zero, suc, ◌+◌, ◌-◌, ◌*◌, ◌≤◌, ◌<◌, List, []}
use Rattle.words.proofs.Prelude.{◌∷◌, ◌++◌, map, length-append, drop_of_length-le, length, take, drop, replicate}
use Rattle.words.specs.Words.{spliced}
use Rattle.words.proofs.CodedLaws.{entries_length, entries_cons}
use Rattle.records.specs.Big.{big}
use Rattle.records.specs.Sealed.{total, Field, field, zipped, sum_of, packed, sealed}
use Rattle.records.proofs.BigLaws.{big_length}
use Rattle.records.proofs.SealedLaws.{packed_length, sealed_length}
use Rattle.records.proofs.Splices.{splice_none, splice_next, splice-length, splice_sealed}
use Rattle.entry.specs.Limits.{width}
use Rattle.entry.specs.Change.{Change, change_code, entries_of}
use Rattle.entry.proofs.ChangeLaws.{change_ok}
use Rattle.image.specs.Layout.{head_mark, flags_of, head_fields, head_size, change_fields, change_size}
use Rattle.image.specs.Inner.{changes_bytes}
use Rattle.image.specs.declared.Head.{Head}

-- the header's fields, with the flag byte that was made
pub head_put : (h : Head) (s cur next : List ℕ) (v : ℕ) → head_size ≤ length s → v ≡ flags_of h
    → cur ≡ spliced 0 61 (packed (field 2 head_mark ∷ field 2 1 ∷ field 1 v ∷ drop 3 (head_fields h))) s
    → next ≡ spliced 61 2 (big 2 (sum_of (take 61 cur))) cur → next ≡ spliced 0 head_size (sealed (head_fields h)) s
unfolding total
head_put h s cur next v room e p q =
    splice_sealed s 0 61 (packed (head_fields h)) (packed_length (head_fields h)) (omega arith) cur next
    (p
    ∙ ap (λ (x : ℕ). spliced 0 61 (packed (field 2 head_mark ∷ field 2 1 ∷ field 1 x ∷ drop 3 (head_fields h))) s) e) q

-- fields of one width
pub zipped_run : (w : ℕ) (ns : List ℕ) (n : ℕ) → length ns ≡ n → zipped (replicate n w) ns ≡ map (field w) ns
zipped_run w [] zero e = refl
zipped_run w [] (suc n) e = refl
zipped_run w (x ∷ ns) zero e = absurd (omega arith)
zipped_run w (x ∷ ns) (suc n) e = ap (λ (l : List Field). field w x ∷ l) (zipped_run w ns n (omega arith))

-- one entry's record: its mark, its words, its sum
pub change_put : (s s₁ s₂ s₃ words : List ℕ) (at mark : ℕ) → at + change_size ≤ length s → length words ≡ width
    → s₁ ≡ spliced at 2 (big 2 mark) s → s₂ ≡ spliced (at + 2) 16 (packed (zipped (replicate width 8) words)) s₁
    → s₃ ≡ spliced (at + 18) 2 (big 2 (sum_of (take 18 (drop at s₂)))) s₂
    → s₃ ≡ spliced at change_size (sealed (change_fields mark (change_code.dec words))) s
unfolding packed total
change_put s s₁ s₂ s₃ words at mark room long p q r =
    let c : Change = change_code.dec words in
    let w : zipped (replicate width 8) words ≡ map (field 8) (change_code.enc c) =
    zipped_run 8 words width long ∙ ap (map (field 8)) (sym (change_ok.forth words long)) in
    splice_sealed s at 18 (packed (change_fields mark c)) (packed_length (change_fields mark c)) (omega arith) s₂ s₃
    (q
    ∙ ap₂ (λ (l : List Field) (x : List ℕ). spliced (at + 2) 16 (packed l) x) w p
    ∙ splice_next s at 2 (big 2 mark) (big_length 2 mark) (omega arith) 16
    (packed (map (field 8) (change_code.enc c)))) r

pub change_long : (mark : ℕ) (c : Change) → length (sealed (change_fields mark c)) ≡ change_size
unfolding total
change_long mark c = sealed_length (change_fields mark c)

pub changes_long : (mark : ℕ) (cs : List Change) → length (changes_bytes mark cs) ≡ length cs * change_size
unfolding changes_bytes
changes_long mark [] = refl
changes_long mark (c ∷ cs) =
    omega (
      arith,
      length-append (sealed (change_fields mark c)) (changes_bytes mark cs),
      change_long mark c,
      changes_long mark cs,
    )

-- the loop over entries: what is left to put gives what is asked
module _ (mark : ℕ) (ws : List ℕ) (n i : ℕ) (out : List ℕ) (at : ℕ) where
  abbrev here : ℕ
  here = at + i * change_size

  abbrev pub left : List ℕ
  left = spliced here ((n - i) * change_size) (changes_bytes mark (drop i (entries_of n ws))) out

  abbrev one : List ℕ
  one = sealed (change_fields mark (change_code.dec (take width (drop (i * width) ws))))

  -- the part of the words that was lent has k of them, as the prover has it
  pub change_is : (next : List ℕ) (k : ℕ) → k ≡ width
      → next ≡ spliced here change_size (sealed (change_fields mark (change_code.dec (take k (drop (i * width) ws))))) out
      → next ≡ spliced here change_size one out
  change_is next k q e =
      e
      ∙ ap (λ (j : ℕ). spliced here change_size
      (sealed (change_fields mark (change_code.dec (take j (drop (i * width) ws))))) out) q

  pub change_length : (next : List ℕ) → here + change_size ≤ length out → next ≡ spliced here change_size one out
      → length next ≡ length out
  change_length next room e =
      ap length e ∙ splice-length out here change_size one
      (change_long mark (change_code.dec (take width (drop (i * width) ws)))) room

  pub changes_turn : (next : List ℕ) → i < n → here + (n - i) * change_size ≤ length out
      → next ≡ spliced here change_size one out
      → spliced (at + (i + 1) * change_size) ((n - (i + 1)) * change_size)
      (changes_bytes mark (drop (i + 1) (entries_of n ws))) next
      ≡ left
  unfolding changes_bytes
  changes_turn next h room e =
      let m : ℕ = (n - (i + 1)) * change_size in
      let k : change_size + m ≡ (n - i) * change_size = omega arith in
      let q : suc i ≡ i + 1 = omega arith in
      let w : at + (i + 1) * change_size ≡ here + change_size = omega arith in
      ap₂ (λ (j : ℕ) (l : List ℕ). spliced j m (changes_bytes mark (drop (i + 1) (entries_of n ws))) l) w e
      ∙ splice_next out here change_size one (change_long mark (change_code.dec (take width (drop (i * width) ws))))
      (omega arith) m
      (changes_bytes mark (drop (i + 1) (entries_of n ws)))
      ∙ ap₂ (λ (j : ℕ) (l : List ℕ). spliced here j l out) k
      (sym (ap (changes_bytes mark) (entries_cons change_code i n ws h)
      ∙ ap (λ (j : ℕ). one ++ changes_bytes mark (drop j (entries_of n ws))) q))

  pub changes_done : n ≤ i → left ≡ out
  unfolding changes_bytes
  changes_done h =
      let z : (n - i) * change_size ≡ 0 = omega arith in
      ap₂ (λ (j : ℕ) (l : List Change). spliced here j (changes_bytes mark l) out) z
      (drop_of_length-le (entries_of n ws) {i = i} (omega (arith, h, entries_length change_code n ws)))
      ∙ splice_none out here
