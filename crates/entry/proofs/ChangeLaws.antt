-- An entry and its two words.
use Rattle.words.proofs.Prelude.{arith, ◌≡◌, refl, sym, ap, ap₂, ◌∙◌, ℕ, suc, ◌+◌, ◌*◌, ◌≤◌, ◌<◌, Bool, true, false}
use Rattle.words.proofs.Prelude.{true≢false, eqb, ne_eqb, eqb-true, lt-ltb, le-ltb, ltb-true, if◌then◌else◌}
use Rattle.words.proofs.Prelude.{List, [], ◌∷◌, length, take, drop, get_or}
use lib.Seq.{get_or-take, get_or-drop}
use Rattle.words.specs.{All.all_of, Coded.Lawful, Coded.entries_at}
use Rattle.words.proofs.CodedLaws.{entries_cons}
use Rattle.entry.specs.{Limits.width, Limits.places, Limits.last_word, Change.Said, Change.place, Change.removed}
use Rattle.entry.specs.{Change.Change, Change.said_formed, Change.said_of, Change.word_of}
use Rattle.entry.specs.{Change.change, Change.change_code, Change.entries_of, Inner.change_at, Inner.LentAs}

-- every word says something, and what is said in form is known by its word
pub word_said : (w : ℕ) → word_of (said_of w) ≡ w
word_said w = go (eqb w last_word) refl
  where
    go : (t : Bool) → eqb w last_word ≡ t → word_of (if t then removed else place w) ≡ w
    go true e = sym (eqb-true w last_word e)
    go false e = refl

pub said_word : (x : Said) → said_formed x ≡ true → said_of (word_of x) ≡ x
said_word (place p) e =
    let h : p < places = ltb-true p places e in
    rw (ne_eqb p last_word (omega arith))
said_word removed e = refl

two : (ws : List ℕ) → length ws ≡ width → change_code.enc (change_code.dec ws) ≡ ws
two [] h = absurd (omega arith)
two (a ∷ []) h = absurd (omega arith)
two (a ∷ b ∷ []) h = ap (λ (w : ℕ). a ∷ (w ∷ [])) (word_said b)
two (a ∷ b ∷ x ∷ r) h = absurd (omega arith)

pub change_ok : Lawful Change change_code
change_ok = record {
  long = λ c. refl;
  back = λ c e. ap (λ (x : Said). record { key = c.key; said = x }) (said_word c.said e);
  forth = two;
}

-- the words of the entry at i are that entry's
pub entry_words : (i : ℕ) (ws : List ℕ) → change_code.dec (take width (drop (i * width) ws)) ≡ change_at ws i
entry_words i ws =
    let z : i * width + 0 ≡ i * width = omega arith in
    let k : get_or (take width (drop (i * width) ws)) 0 0 ≡ get_or ws (i * width) 0 =
    get_or-take width (drop (i * width) ws) 0 0 (omega arith) ∙ get_or-drop (i * width) ws 0 0
    ∙ ap (λ (j : ℕ). get_or ws j 0) z in
    let w : get_or (take width (drop (i * width) ws)) 1 0 ≡ get_or ws (i * width + 1) 0 =
    get_or-take width (drop (i * width) ws) 1 0 (omega arith) ∙ get_or-drop (i * width) ws 1 0 in
    ap₂ change k w

pub entry_cons : (i n : ℕ) (ws : List ℕ) → i < n
    → drop i (entries_of n ws) ≡ change_at ws i ∷ drop (suc i) (entries_of n ws)
entry_cons i n ws h =
    entries_cons change_code i n ws h
    ∙ ap (λ (c : Change). c ∷ drop (suc i) (entries_of n ws)) (entry_words i ws)

-- an entry's words as it is lent: removed, at a place, and at a place that is none
module _ (k : ℕ) where
  pub lent_removed : LentAs (record { key = k; said = removed }) (k ∷ (last_word ∷ []))
  unfolding entries_at all_of
  lent_removed = record { whole = refl; same_form = refl; same_entry = λ e. refl }

  module _ (p : ℕ) where
    pub lent_place : p < places → LentAs (record { key = k; said = place p }) (k ∷ (p ∷ []))
    unfolding entries_at all_of
    lent_place h = let q = ne_eqb p last_word (omega arith) in
        record { whole = refl; same_form = rw (q, lt-ltb p places h); same_entry = λ e. rw q }

    pub lent_none : places ≤ p → LentAs (record { key = k; said = place p }) (k ∷ (places ∷ []))
    unfolding entries_at all_of
    lent_none h = record {
      whole = refl;
      same_form = rw (le-ltb p places h);
      same_entry = λ e. absurd (true≢false (sym e ∙ le-ltb p places h));
    }
