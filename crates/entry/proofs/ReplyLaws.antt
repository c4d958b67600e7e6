-- A reply and its words.
use Rattle.words.proofs.Prelude.{arith, ◌≡◌, refl, sym, ap, ◌∙◌, ℕ, ◌+◌, ◌*◌, ◌/◌, ◌≤◌, ◌<◌, Bool, true, false, eqb}
use Rattle.words.proofs.Prelude.{eq-eqb, ne_eqb, eqb-true, le-leb, lt-leb, ltb-true, if◌then◌else◌, Option, none}
use Rattle.words.proofs.Prelude.{some, List, [], ◌∷◌, length, take, drop, get_or}
use lib.Seq.{get_or-take, get_or-drop}
use Rattle.words.specs.Coded.{Lawful}
use Rattle.entry.specs.{Limits.reply_width, Limits.places, Limits.unknown_word, Change.Said, Change.place}
use Rattle.entry.specs.{Change.removed, Change.said_of, Reply.known_is, Reply.reply_formed, Reply.reply_word}
use Rattle.std.specs.Prelude.{Option as Optional, Some, None}
use Rattle.entry.specs.{Reply.reply_said, Reply.reply_code, Reply.reply_at, declared.Said.Said as CodeSaid}
use Rattle.entry.specs.declared.Said.TheVariants.{Place, Removed}
use Rattle.entry.proofs.ChangeLaws.{word_said, said_word}

-- every word is some reply's, and a reply in form is known by its word
word_reply : (w : ℕ) → reply_word (reply_said w) ≡ w
word_reply w = go (eqb w unknown_word) refl
  where
    go : (t : Bool) → eqb w unknown_word ≡ t → reply_word (if t then none else some (said_of w)) ≡ w
    go true e = sym (eqb-true w unknown_word e)
    go false e = word_said w

reply_word_lem : (o : Option Said) → reply_formed o ≡ true → reply_said (reply_word o) ≡ o
reply_word_lem none e = refl
reply_word_lem (some (place p)) e =
    let h : p < places = ltb-true p places e in
    rw (ne_eqb p unknown_word (omega arith)) (ap (λ (x : Said). some x) (said_word (place p) e))
reply_word_lem (some removed) e = refl

one : (ws : List ℕ) → length ws ≡ reply_width → reply_code.enc (reply_code.dec ws) ≡ ws
one [] h = absurd (omega arith)
one (a ∷ []) h = ap (λ (w : ℕ). w ∷ []) (word_reply a)
one (a ∷ b ∷ r) h = absurd (omega arith)

pub reply_ok : Lawful (Option Said) reply_code
reply_ok = record { long = λ o. refl; back = reply_word_lem; forth = one }

-- by the test that the code makes
module _ (w : ℕ) where
  pub reply_unknown : w ≡ unknown_word → none ≡ reply_said w
  reply_unknown e = sym (rw (eq-eqb w unknown_word e))

  pub reply_said_lem : (w ≡ unknown_word → ⊥) → some (said_of w) ≡ reply_said w
  reply_said_lem n = sym (rw (ne_eqb w unknown_word n))

-- a reply of the code's is known by what it says
abbrev known_of : Option Said → Optional CodeSaid
known_of none = None
known_of (some (place p)) = Some (Place (record { 0 = p }))
known_of (some removed) = Some Removed

known_back : (k : Optional CodeSaid) → known_of (known_is k) ≡ k
known_back (Some (Place p)) = refl
known_back (Some Removed) = refl
known_back None = refl

pub known_unique : (a b : Optional CodeSaid) → known_is a ≡ known_is b → a ≡ b
known_unique a b e = sym (known_back a) ∙ ap known_of e ∙ known_back b

-- a reply among words, as the code reads it
module _ (ws : List ℕ) (i : ℕ) where
  pub reply_past : length ws / reply_width ≤ i → none ≡ reply_at ws i
  unfolding reply_at
  reply_past h = sym (rw (le-leb (length ws / reply_width) i h))

  pub reply_at_lem : i < length ws / reply_width → reply_at ws i ≡ reply_code.dec (take reply_width (drop (i * reply_width) ws))
  unfolding reply_at
  reply_at_lem h = rw (lt-leb (length ws / reply_width) i h)

  pub reply_there : i < length ws / reply_width → reply_said (get_or ws (i * reply_width) 0) ≡ reply_at ws i
  reply_there h =
      let z : i * reply_width + 0 ≡ i * reply_width = omega arith in
      sym (reply_at_lem h
      ∙ ap reply_said (get_or-take reply_width (drop (i * reply_width) ws) 0 0 (omega arith)
      ∙ get_or-drop (i * reply_width) ws 0 0 ∙ ap (λ (j : ℕ). get_or ws j 0) z))
