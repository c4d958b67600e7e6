-- A state written: its image part by part, and how long it is.
use Rattle.words.proofs.Prelude.{arith, ◌≡◌, refl, sym, ap, ap₂, ◌∙◌, ℕ, ◌+◌, ◌*◌, ◌≤◌, ◌<◌, Bool, true, false, lt-ltb}
use Rattle.words.proofs.Prelude.{le-ltb, if◌then◌else◌, Option, none, some, List, [], ◌∷◌, append-nil, append_assoc}
use Rattle.words.proofs.Prelude.{◌++◌, map, length-append, length, take, drop}
use native.Mathlib.Nat.{zero-add}
use Rattle.std.specs.Prelude.{Ok, IfSome}
use Rattle.std.specs.Bool.{then_some}
use Rattle.words.specs.Words.{spliced}
use Rattle.words.proofs.CodedLaws.{entries_length}
use Rattle.records.specs.Sealed.{sealed}
use Rattle.records.proofs.Splices.{splice_next}
use Rattle.entry.specs.Limits.{most_nodes, most_metadata, snapshot_words}
use Rattle.entry.specs.Change.{Change, change_code, entries_of}
use Rattle.entry.specs.Sign.{sign_formed}
use Rattle.entry.specs.Guards.{first, refused, replied}
use Rattle.entry.specs.declared.StopSign.{StopSign}
use Rattle.entry.proofs.SliceLaws.{stored_entries}
use Rattle.snapshot.specs.Calls.{outcome as output}
use Rattle.model.specs.Numbers.{accepted_of}
use Rattle.model.specs.Log.{Log, if_given, or_empty}
use Rattle.model.proofs.Forms.{Formed, formed_of, snapshot_held_lem}
use Rattle.state_cache.specs.State.{Raw, formed, log_of, sign_or}
use Rattle.state_cache.proofs.Stands.{Stands, stands_of, log_formed, numbers_are}
use Rattle.image.specs.Layout.{key_mark, entry_mark, head_fields, head_size, Rec, key_rec, entry_rec, change_fields}
use Rattle.image.specs.Layout.{change_size, stop_size, rec_bytes, run_bytes}
use Rattle.image.specs.Image.{metadata_held, head_of, stop_recs, image_of}
use Rattle.image.specs.Calls.{write_call, read_image, ReadsBack}
use lib.Seq.{take_at}
use Rattle.image.specs.Typed.{Typed}
use Rattle.image.proofs.Theorems.{read_written}
use Rattle.image.proofs.Sizes.{image_room_lem}
use Rattle.image.specs.Inner.{head_in, changes_bytes, SignFormed, sign_size, sign_bytes}
use Rattle.image.specs.declared.Head.{Head}
use Rattle.image.proofs.RecLaws.{Counts, counts, false_true}
use Rattle.image.proofs.HeadLaws.{head_same, head_length}
use Rattle.image.proofs.Puts.{changes_long}
use Rattle.image.proofs.Signs.{stop_long}

-- one run behind another at the front
front_next : (out a b : List ℕ) (k j : ℕ) → length a ≡ k → k ≤ length out
    → spliced k j b (spliced 0 k a out) ≡ spliced 0 (k + j) (a ++ b) out
front_next out a b k j e h =
    ap (λ (i : ℕ). spliced i j b (spliced 0 k a out)) (sym (zero-add k)) ∙ splice_next out 0 k a e (omega arith) j b

-- records of one kind, one after the other
pub run_changes : (mark : ℕ) (mk : Change → Rec) → ((c : Change) → rec_bytes (mk c) ≡ sealed (change_fields mark c))
    → (cs : List Change) (more : List Rec) → run_bytes (map mk cs ++ more) ≡ changes_bytes mark cs ++ run_bytes more
unfolding run_bytes changes_bytes
run_changes mark mk h [] more = refl
run_changes mark mk h (c ∷ cs) more =
    ap₂ (λ (x y : List ℕ). x ++ y) (h c) (run_changes mark mk h cs more)
    ∙ sym (append_assoc (sealed (change_fields mark c)) (changes_bytes mark cs) (run_bytes more))

pub run_stop : (held : Bool) (g : StopSign)
    → run_bytes (stop_recs (if held then some g else none)) ≡ sign_bytes (then_some held g)
unfolding run_bytes
run_stop true g = append-nil _
run_stop false g = refl

-- what a held stop-sign is
pub sign_formed_lem : (held : Bool) (g : StopSign) → if_given sign_formed (if held then some g else none) ≡ true
    → held ≡ true → sign_formed g ≡ true
sign_formed_lem true g e q = e
sign_formed_lem false g e q = false_true q

pub sign_stands : (held : Bool) (g : StopSign) → (held ≡ true → sign_formed g ≡ true)
    → IfSome (then_some held g) SignFormed
sign_stands true g h = h refl
sign_stands false g h = tt

sign_long : (held : Bool) (g : StopSign) → (held ≡ true → sign_formed g ≡ true) → length g.nodes ≡ most_nodes
    → length g.metadata ≡ most_metadata → length (sign_bytes (then_some held g)) ≡ sign_size (then_some held g)
sign_long true g h l w = stop_long g (counts g (h refl)) l w
sign_long false g h l w = refl

pub sign_most : (held : Bool) (g : StopSign) → (held ≡ true → sign_formed g ≡ true)
    → sign_size (then_some held g) ≤ stop_size most_nodes most_metadata
sign_most true g h = let c : Counts g.node_count g.metadata_len = counts g (h refl) in
    omega (arith, c.few, c.short)
sign_most false g h = omega arith

metadata_held_lem : (g : Option StopSign) → metadata_held g ≡ (sign_or g).metadata_held
metadata_held_lem none = refl
metadata_held_lem (some g) = refl

pub write_ill : (r : Raw) (out : List ℕ) → formed r ≡ false → output (refused 12 0) out ≡ write_call r out
unfolding write_call first
write_ill r out e = rw e

module _ (r : Raw) (ok : formed r ≡ true) where
  abbrev s : Log
  s = log_of r

  st : Stands s r
  st = stands_of r ok

  f : Formed s
  f = formed_of s (log_formed r ok)

  pub stop_formed : r.index.stop_held ≡ true → sign_formed r.index.stop ≡ true
  stop_formed = sign_formed_lem r.index.stop_held r.index.stop (unfold log_of in f.stop)

  pub keys_are : or_empty s.run.held ≡ entries_of r.index.keys r.snapshot
  keys_are =
      sym (ap₂ entries_of (sym st.run.snapshot_keys) (sym st.snapshot)
      ∙ stored_entries snapshot_words (or_empty s.run.held) (snapshot_held_lem s.run.held f.snapshot).fine)

  head_is : head_of s ≡ head_in r.index
  head_is =
      head_same (head_in r.index) _ _ _ _ _ _ _ _ _ _ st.run.snapshot st.tail.stopped
      (metadata_held_lem s.tail.sign ∙ ap (λ (g : StopSign). g.metadata_held) st.tail.sign) st.run.start
      st.marks.index (ap accepted_of (numbers_are s r st)) st.run.count st.run.snapshot_keys
      st.marks.promised st.marks.rounded

  abbrev first_part : List ℕ
  first_part = sealed (head_fields (head_in r.index))

  abbrev keys : List ℕ
  keys = changes_bytes key_mark (entries_of r.index.keys r.snapshot)

  abbrev entries : List ℕ
  entries = changes_bytes entry_mark (entries_of r.index.retained r.log)

  abbrev sign : List ℕ
  sign = sign_bytes (then_some r.index.stop_held r.index.stop)

  pub image_is : image_of s ≡ first_part ++ (keys ++ (entries ++ sign))
  unfolding image_of log_of
  image_is =
      ap₂ (λ (h : Head) (l : List ℕ). sealed (head_fields h) ++ l) head_is
      (run_changes key_mark key_rec (λ c. refl) (or_empty s.run.held)
      (map entry_rec s.run.retained ++ stop_recs s.tail.sign)
      ∙ ap₂ (λ (cs : List Change) (l : List ℕ). changes_bytes key_mark cs ++ l) keys_are
      (run_changes entry_mark entry_rec (λ c. refl) s.run.retained (stop_recs s.tail.sign)
      ∙ ap (λ (l : List ℕ). entries ++ l) (run_stop r.index.stop_held r.index.stop)))

  module _ (long : length r.index.stop.nodes ≡ most_nodes)
      (wide : length r.index.stop.metadata ≡ most_metadata) where
    abbrev end : ℕ
    end =
        head_size + r.index.keys * change_size + r.index.retained * change_size
        + sign_size (then_some r.index.stop_held r.index.stop)

    keys_long : length keys ≡ r.index.keys * change_size
    keys_long =
        changes_long key_mark (entries_of r.index.keys r.snapshot)
        ∙ ap (λ (n : ℕ). n * change_size) (entries_length change_code r.index.keys r.snapshot)

    entries_long : length entries ≡ r.index.retained * change_size
    entries_long =
        changes_long entry_mark (entries_of r.index.retained r.log)
        ∙ ap (λ (n : ℕ). n * change_size) (entries_length change_code r.index.retained r.log)

    pub image_long : length (image_of s) ≡ end
    image_long =
        omega (
          arith,
          ap length image_is,
          length-append first_part (keys ++ (entries ++ sign)),
          length-append keys (entries ++ sign),
          length-append entries sign,
          head_length (head_in r.index),
          keys_long,
          entries_long,
          sign_long r.index.stop_held r.index.stop stop_formed long wide,
        )

    pub write_short : (out : List ℕ) → length out < end → output (refused 13 0) out ≡ write_call r out
    unfolding write_call first
    write_short out h = rw (ok, lt-ltb (length out) (length (image_of s)) (omega (arith, h, image_long)))

    -- the four parts one behind the other are the image
    pub parts_put : (out o₁ o₂ o₃ o₄ : List ℕ) → end ≤ length out → o₁ ≡ spliced 0 head_size first_part out
        → o₂ ≡ spliced head_size (r.index.keys * change_size) keys o₁
        → o₃ ≡ spliced (head_size + r.index.keys * change_size) (r.index.retained * change_size) entries o₂
        → o₄ ≡ spliced (head_size + r.index.keys * change_size + r.index.retained * change_size)
        (sign_size (then_some r.index.stop_held r.index.stop)) sign o₃
        → o₄ ≡ spliced 0 (length (image_of s)) (image_of s) out
    parts_put out o₁ o₂ o₃ o₄ h p q t u =
        let k : ℕ = r.index.keys * change_size in
        let e : ℕ = r.index.retained * change_size in
        let z : ℕ = sign_size (then_some r.index.stop_held r.index.stop) in
        let e₂ : o₂ ≡ spliced 0 (head_size + k) (first_part ++ keys) out =
        q
        ∙ ap (spliced head_size k keys) p
        ∙ front_next out first_part keys head_size k (head_length (head_in r.index)) (omega arith) in
        let l₂ : length (first_part ++ keys) ≡ head_size + k =
        omega (arith, length-append first_part keys, head_length (head_in r.index), keys_long) in
        let e₃ : o₃ ≡ spliced 0 (head_size + k + e) (first_part ++ keys ++ entries) out =
        t
        ∙ ap (spliced (head_size + k) e entries) e₂
        ∙ front_next out (first_part ++ keys) entries (head_size + k) e l₂ (omega arith) in
        let l₃ : length (first_part ++ keys ++ entries) ≡ head_size + k + e =
        omega (arith, length-append (first_part ++ keys) entries, l₂, entries_long) in
        u
        ∙ ap (spliced (head_size + k + e) z sign) e₃
        ∙ front_next out (first_part ++ keys ++ entries) sign (head_size + k + e) z l₃ (omega arith)
        ∙ ap₂ (λ (n : ℕ) (l : List ℕ). spliced 0 n l out) (sym image_long)
        (append_assoc (first_part ++ keys) entries sign ∙ append_assoc first_part keys (entries ++ sign) ∙ sym image_is)

    module _ (out o : List ℕ) (h : end ≤ length out) (e : o ≡ spliced 0 (length (image_of s)) (image_of s) out) where
      pub write_whole : output (replied end) o ≡ write_call r out
      unfolding write_call first
      write_whole = rw (ok, le-ltb (length out) (length (image_of s)) (omega (arith, h, image_long)), e, ← image_long)

      pub write_back : Typed s → ReadsBack (Ok end) s o
      write_back t = (
        λ size n. ap (λ (l : List ℕ). read_image size l)
            (ap₂ take (sym image_long) e
            ∙ take_at (image_of s) (drop (0 + length (image_of s)) out) (length (image_of s)) refl)
            ∙ read_written size s n (log_formed r ok) t,
        omega (arith, image_long, image_room_lem s (log_formed r ok) t),
      )
