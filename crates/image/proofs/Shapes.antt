-- The records that a header wants, and those that a state has: the same lists.
use Rattle.words.proofs.Prelude.{arith, ◌≡◌, refl, sym, ap, ◌∙◌, ℕ, zero, suc, Bool, true, false, ◌&&◌, ◌||◌, not, ltb}
use Rattle.words.proofs.Prelude.{leb, le-leb, Option, none, some, List, [], ◌∷◌, ◌++◌, map, length, replicate}
use Rattle.words.specs.All.{all_of}
use Rattle.words.proofs.Tests.{and_left, and_right, both_true}
use Rattle.entry.specs.Change.{Change, change_formed, entries_formed}
use Rattle.entry.specs.Sign.{sign_formed}
use Rattle.entry.specs.declared.StopSign.{StopSign}
use Rattle.snapshot.specs.Folds.{climbs, rising}
use Rattle.model.specs.Log.{given, if_given}
use Rattle.image.proofs.RecLaws.{false_true, iff_self, iff_same, rec_typed}
use Rattle.image.proofs.RunLaws.{matches}
use Rattle.image.specs.Layout.{Rec, key_rec, entry_rec, stop_rec}
use Rattle.image.specs.Image.{metadata_held, stop_recs}
use Rattle.image.specs.Reading.{stop_wants, floor_after, iff, rec_formed, keys_in, entries_in, sign_in}
use Rattle.image.specs.Typed.{change_typed, sign_typed}
use Rattle.image.specs.declared.Want.{Want}
use Rattle.image.specs.declared.Want.TheVariants.{Key, Entry}

-- keys at least a floor, each above the one before
unfoldable pub rising_from : ℕ → List Change → Bool
rising_from f [] = true
rising_from f (c ∷ cs) = leb f c.key && rising_from (suc c.key) cs

climbs_from : (k : ℕ) (s : List Change) → climbs k s ≡ rising_from (suc k) s
unfolding climbs rising_from
climbs_from k [] = refl
climbs_from k (d ∷ s) = ap (λ (b : Bool). ltb k d.key && b) (climbs_from d.key s)

pub rising_from_lem : (s : List Change) → rising s ≡ rising_from 0 s
unfolding rising rising_from
rising_from_lem [] = refl
rising_from_lem (d ∷ s) = climbs_from d.key s
    ∙ ap (λ (b : Bool). b && rising_from (suc d.key) s) (sym (le-leb 0 d.key (omega arith)))

-- ---- from a state's parts

pub keys_join : (ks : List Change) (f : ℕ) (ws : List Want) (more : List Rec) → rising_from f ks ≡ true
    → entries_formed ks ≡ true
    → ((g : ℕ) → matches g ws more ≡ true) → matches f (replicate (length ks) Key ++ ws) (map key_rec ks ++ more) ≡ true
unfolding rising_from matches all_of
keys_join [] f ws more r e h = h f
keys_join (c ∷ ks) f ws more r e h =
    both_true (leb f c.key && change_formed c) _ (both_true (leb f c.key) _ (and_left _ _ r) (and_left _ _ e))
    (keys_join ks (suc c.key) ws more (and_right (leb f c.key) _ r) (and_right (change_formed c) _ e) h)

pub entries_join : (es : List Change) (f : ℕ) (ws : List Want) (more : List Rec) → entries_formed es ≡ true
    → ((g : ℕ) → matches g ws more ≡ true)
    → matches f (replicate (length es) Entry ++ ws) (map entry_rec es ++ more) ≡ true
unfolding matches all_of
entries_join [] f ws more e h = h f
entries_join (c ∷ es) f ws more e h =
    both_true (change_formed c) _ (and_left _ _ e) (entries_join es f ws more (and_right (change_formed c) _ e) h)

pub stop_join : (g : Option StopSign) (f : ℕ) → if_given sign_formed g ≡ true
    → matches f (stop_wants (given g) (metadata_held g)) (stop_recs g) ≡ true
unfolding matches
stop_join none f e = refl
stop_join (some g) f e =
    both_true (iff g.metadata_held g.metadata_held && sign_formed g) true
    (both_true (iff g.metadata_held g.metadata_held) _ (iff_self g.metadata_held) e) refl

pub matches_length : (ws : List Want) (rs : List Rec) (f : ℕ) → matches f ws rs ≡ true → length rs ≡ length ws
unfolding matches
matches_length [] [] f e = refl
matches_length [] (r ∷ rs) f e = false_true e
matches_length (w ∷ ws) [] f e = false_true e
matches_length (w ∷ ws) (r ∷ rs) f e = ap suc (matches_length ws rs (floor_after f r) (and_right (rec_formed f w r) _ e))

-- ---- back to them

pub record KeySplit (k f : ℕ) (ws : List Want) (rs : List Rec) : Type 0 where
  pub keys : List Change
  pub more : List Rec
  pub floor : ℕ
  pub is : rs ≡ map key_rec keys ++ more
  pub long : length keys ≡ k
  pub rises : rising_from f keys ≡ true
  pub fine : entries_formed keys ≡ true
  pub next : matches floor ws more ≡ true

pub keys_split : (k f : ℕ) (ws : List Want) (rs : List Rec) → matches f (replicate k Key ++ ws) rs ≡ true
    → KeySplit k f ws rs
unfolding rising_from matches all_of
keys_split zero f ws rs e = record
    { keys = []; more = rs; floor = f; is = refl; long = refl; rises = refl; fine = refl; next = e }
keys_split (suc k) f ws [] e = false_true e
keys_split (suc k) f ws (key_rec c ∷ rs) e =
    let a : (leb f c.key && change_formed c) ≡ true = and_left _ _ e in
    let s : KeySplit k (suc c.key) ws rs = keys_split k (suc c.key) ws rs
    (and_right (leb f c.key && change_formed c) _ e) in
    record {
      keys = c ∷ s.keys;
      more = s.more;
      floor = s.floor;
      is = ap (λ (l : List Rec). key_rec c ∷ l) s.is;
      long = ap suc s.long;
      rises = both_true (leb f c.key) _ (and_left _ _ a) s.rises;
      fine = both_true (change_formed c) _ (and_right (leb f c.key) _ a) s.fine;
      next = s.next;
    }
keys_split (suc k) f ws (entry_rec c ∷ rs) e = false_true e
keys_split (suc k) f ws (stop_rec g ∷ rs) e = false_true e

pub record EntrySplit (n : ℕ) (ws : List Want) (rs : List Rec) : Type 0 where
  pub entries : List Change
  pub more : List Rec
  pub floor : ℕ
  pub is : rs ≡ map entry_rec entries ++ more
  pub long : length entries ≡ n
  pub fine : entries_formed entries ≡ true
  pub next : matches floor ws more ≡ true

pub entries_split : (n f : ℕ) (ws : List Want) (rs : List Rec) → matches f (replicate n Entry ++ ws) rs ≡ true
    → EntrySplit n ws rs
unfolding matches all_of
entries_split zero f ws rs e = record
    { entries = []; more = rs; floor = f; is = refl; long = refl; fine = refl; next = e }
entries_split (suc n) f ws [] e = false_true e
entries_split (suc n) f ws (entry_rec c ∷ rs) e =
    let s : EntrySplit n ws rs = entries_split n f ws rs (and_right (change_formed c) _ e) in
    record {
      entries = c ∷ s.entries;
      more = s.more;
      floor = s.floor;
      is = ap (λ (l : List Rec). entry_rec c ∷ l) s.is;
      long = ap suc s.long;
      fine = both_true (change_formed c) _ (and_left _ _ e) s.fine;
      next = s.next;
    }
entries_split (suc n) f ws (key_rec c ∷ rs) e = false_true e
entries_split (suc n) f ws (stop_rec g ∷ rs) e = false_true e

pub record StopSplit (t m : Bool) (rs : List Rec) : Type 0 where
  pub sign : Option StopSign
  pub is : rs ≡ stop_recs sign
  pub held : given sign ≡ t
  pub metadata : metadata_held sign ≡ m
  pub fine : if_given sign_formed sign ≡ true

not_held : (m : Bool) → (false || not m) ≡ true → false ≡ m
not_held true e = e
not_held false e = refl

pub stop_split : (t m : Bool) (f : ℕ) (rs : List Rec) → (t || not m) ≡ true → matches f (stop_wants t m) rs ≡ true
    → StopSplit t m rs
unfolding matches
stop_split false m f [] q e = record { sign = none; is = refl; held = refl; metadata = not_held m q; fine = refl }
stop_split false m f (r ∷ rs) q e = false_true e
stop_split true m f [] q e = false_true e
stop_split true m f (key_rec c ∷ rs) q e = false_true e
stop_split true m f (entry_rec c ∷ rs) q e = false_true e
stop_split true m f (stop_rec g ∷ []) q e =
    let a : (iff m g.metadata_held && sign_formed g) ≡ true = and_left _ true e in
    record {
      sign = some g;
      is = refl;
      held = refl;
      metadata = sym (iff_same m g.metadata_held (and_left _ _ a));
      fine = and_right (iff m g.metadata_held) _ a;
    }
stop_split true m f (stop_rec g ∷ r ∷ rs) q e = false_true
    (and_right (iff m g.metadata_held && sign_formed g) false e)

-- ---- the parts of a run

pub keys_in_lem : (ks es : List Change) (g : Option StopSign)
    → keys_in (map key_rec ks ++ (map entry_rec es ++ stop_recs g)) ≡ ks
keys_in_lem [] [] none = refl
keys_in_lem [] [] (some g) = refl
keys_in_lem [] (c ∷ es) g = keys_in_lem [] es g
keys_in_lem (c ∷ ks) es g = ap (λ (l : List Change). c ∷ l) (keys_in_lem ks es g)

pub entries_in_lem : (ks es : List Change) (g : Option StopSign)
    → entries_in (map key_rec ks ++ (map entry_rec es ++ stop_recs g)) ≡ es
entries_in_lem [] [] none = refl
entries_in_lem [] [] (some g) = refl
entries_in_lem [] (c ∷ es) g = ap (λ (l : List Change). c ∷ l) (entries_in_lem [] es g)
entries_in_lem (c ∷ ks) es g = entries_in_lem ks es g

pub sign_in_lem : (ks es : List Change) (g : Option StopSign)
    → sign_in (map key_rec ks ++ (map entry_rec es ++ stop_recs g)) ≡ g
sign_in_lem [] [] none = refl
sign_in_lem [] [] (some g) = refl
sign_in_lem [] (c ∷ es) g = sign_in_lem [] es g
sign_in_lem (c ∷ ks) es g = sign_in_lem ks es g

-- types
pub keys_typed : (ks : List Change) (more : List Rec) → all_of change_typed ks ≡ true → all_of rec_typed more ≡ true
    → all_of rec_typed (map key_rec ks ++ more) ≡ true
unfolding all_of
keys_typed [] more t e = e
keys_typed (c ∷ ks) more t e = both_true (change_typed c) _ (and_left _ _ t)
    (keys_typed ks more (and_right (change_typed c) _ t) e)

pub entries_typed : (es : List Change) (more : List Rec) → all_of change_typed es ≡ true → all_of rec_typed more ≡ true
    → all_of rec_typed (map entry_rec es ++ more) ≡ true
unfolding all_of
entries_typed [] more t e = e
entries_typed (c ∷ es) more t e = both_true (change_typed c) _ (and_left _ _ t)
    (entries_typed es more (and_right (change_typed c) _ t) e)

pub stop_typed : (g : Option StopSign) → if_given sign_typed g ≡ true → all_of rec_typed (stop_recs g) ≡ true
unfolding all_of
stop_typed none e = refl
stop_typed (some g) e = both_true (sign_typed g) true e refl

pub record PartsTyped (ks es : List Change) (g : Option StopSign) : Type 0 where
  pub keys : all_of change_typed ks ≡ true
  pub entries : all_of change_typed es ≡ true
  pub sign : if_given sign_typed g ≡ true

pub parts_typed : (ks es : List Change) (g : Option StopSign)
    → all_of rec_typed (map key_rec ks ++ (map entry_rec es ++ stop_recs g)) ≡ true → PartsTyped ks es g
unfolding all_of
parts_typed [] [] none e = record { keys = refl; entries = refl; sign = refl }
parts_typed [] [] (some g) e = record { keys = refl; entries = refl; sign = and_left (sign_typed g) true e }
parts_typed [] (c ∷ es) g e =
    let p = parts_typed [] es g (and_right (change_typed c) _ e) in
    record { keys = refl; entries = both_true (change_typed c) _ (and_left _ _ e) p.entries; sign = p.sign }
parts_typed (c ∷ ks) es g e =
    let p = parts_typed ks es g (and_right (change_typed c) _ e) in
    record { keys = both_true (change_typed c) _ (and_left _ _ e) p.keys; entries = p.entries; sign = p.sign }
