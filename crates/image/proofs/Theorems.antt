-- E1's promises, of the image as a list of bytes: "Reading back a written image gives the state without its batch,
-- and two accepted images of one state are equal bytes."
use Rattle.words.proofs.Prelude.{arith, ◌≡◌, refl, sym, ap, ap₂, ◌∙◌, ℕ, ◌+◌, ◌≤◌, Bool, true, false, true≢false, ◌||◌}
use Rattle.words.proofs.Prelude.{not, eqb, ltb, leb, eq-eqb, eqb-true, le-ltb, ltb-false, le-leb, leb-true}
use Rattle.words.proofs.Prelude.{if◌then◌else◌, Option, none, some, List, [], ◌∷◌, append-nil, ◌++◌, map, length-drop}
use Rattle.words.proofs.Prelude.{length-append, drop_of_length-le, length, take, drop, replicate}
use lib.Seq.{drop_at}
use Rattle.words.specs.All.{all_of}
use Rattle.words.proofs.Tests.{and_left, and_right, both_true}
use Rattle.words.proofs.Alls.{all_drop}
use Rattle.records.specs.Big.{value, are_bytes}
use Rattle.records.specs.Sealed.{sealed}
use Rattle.entry.specs.Limits.{key_room, largest_batch}
use Rattle.entry.specs.Change.{Change, entries_formed}
use Rattle.entry.specs.Sign.{sign_formed}
use Rattle.entry.specs.Guards.{guard, Verdict, passes, first, Answer, replied, refused, settle}
use Rattle.entry.specs.declared.StopSign.{StopSign}
use Rattle.snapshot.specs.Folds.{rising}
use Rattle.model.specs.Numbers.{end_of, accepted_of}
use Rattle.model.specs.Log.{Log, given, if_given, numbers_of, or_empty, keys_formed, well_formed}
use Rattle.model.specs.Inner.{Sound}
use Rattle.model.specs.{Append.reloaded, Calls.reload, Calls.effect}
use Rattle.model.proofs.Forms.{sound_of, of_sound, Formed, formed_of, of_formed, Snapshot, of_snapshot, snapshot_held_lem}
use Rattle.image.proofs.RecLaws.{rec_typed}
use Rattle.image.proofs.RunLaws.{matches, run_back, Runs, run_forth}
use Rattle.image.proofs.HeadLaws.{head_same, Small, head_back, head_marked, head_format, head_sound_lem}
use Rattle.image.proofs.HeadLaws.{head_length, head_forth, head_formed_lem, Ballots, head_typed}
use Rattle.image.proofs.Shapes.{rising_from_lem, keys_join, entries_join, stop_join, matches_length, KeySplit}
use Rattle.image.proofs.Shapes.{keys_split, EntrySplit, entries_split, StopSplit, stop_split, keys_in_lem}
use Rattle.image.proofs.Shapes.{entries_in_lem, sign_in_lem, keys_typed, entries_typed, stop_typed, PartsTyped}
use Rattle.image.proofs.Shapes.{parts_typed}
use Rattle.image.specs.Layout.{head_mark, head_fields, Rec, key_rec, entry_rec, run_bytes, head_size}
use Rattle.image.specs.Image.{metadata_held, head_of, stop_recs, recs_of, image_of}
use Rattle.image.specs.Reading.{head_at, head_numbers, head_formed, head_sound, stop_wants, wants, sound_run, run_of}
use Rattle.image.specs.Reading.{run_end, whole, keys_in, entries_in, sign_in, state_from}
use Rattle.image.specs.Calls.{image_guards, read_image, unbatched}
use Rattle.image.specs.Typed.{change_typed, sign_typed, Typed}
use Rattle.image.specs.declared.Head.{Head}
use Rattle.image.specs.declared.Want.TheVariants.{Entry}
use Rattle.records.proofs.BigLaws.{byte}

-- ---- what a well-formed state has

module _ (s : Log) (f : Formed s) where
  abbrev hd : Head
  hd = head_of s

  shot_room : (h : Option (List Change)) → if_given keys_formed h ≡ true → length (or_empty h) ≤ key_room
  unfolding keys_formed
  shot_room none e = omega arith
  shot_room (some t) e = leb-true (length t) key_room (and_left _ _ (and_right (rising t) _ e))

  pub key_room_lem : length (or_empty s.run.held) ≤ key_room
  key_room_lem = shot_room s.run.held f.snapshot

  head_numbers_lem : Sound (head_numbers hd)
  unfolding accepted_of end_of
  head_numbers_lem =
      let n : Sound (numbers_of s) = f.numbers in
      record {
        low = n.low;
        high = n.high;
        inside = omega (arith, n.inside);
        small = omega arith;
        quiet = λ q. refl;
        sized = omega arith;
        room = omega (arith, n.room);
      }

  metadata_held_lem : (g : Option StopSign) → (given g || not (metadata_held g)) ≡ true
  metadata_held_lem none = refl
  metadata_held_lem (some g) = refl

  keys_held : (h : Option (List Change)) → (given h || eqb (length (or_empty h)) 0) ≡ true
  keys_held none = refl
  keys_held (some t) = refl

  pub head_form : head_formed hd ≡ true
  unfolding head_formed accepted_of end_of
  head_form =
      both_true (given s.tail.sign || not (metadata_held s.tail.sign)) _ (metadata_held_lem s.tail.sign)
      (both_true (given s.run.held || eqb (length (or_empty s.run.held)) 0) _ (keys_held s.run.held)
      (both_true (leb (length (or_empty s.run.held)) key_room) _ (le-leb _ _ key_room_lem)
      (both_true (eqb hd.accepted (accepted_of (head_numbers hd))) _
      (eq-eqb hd.accepted (accepted_of (head_numbers hd)) refl) (of_sound (head_numbers hd) head_numbers_lem))))

  head_small : Typed s → Small hd
  unfolding accepted_of end_of
  head_small t =
      let n : Sound (numbers_of s) = f.numbers in
      record {
        compacted = omega (arith, n.low, n.high, n.inside);
        decided = omega (arith, n.high, n.inside);
        accepted = omega (arith, n.inside);
        entries = omega (arith, n.room);
        keys = omega (arith, key_room_lem);
        promise = t.promise;
        round = t.round;
      }

  pub rec_match : matches 0 (wants hd) (recs_of s) ≡ true
  rec_match =
      let k : Snapshot (or_empty s.run.held) = snapshot_held_lem s.run.held f.snapshot in
      keys_join (or_empty s.run.held) 0
      (replicate (length s.run.retained) _ ++ stop_wants (given s.tail.sign) (metadata_held s.tail.sign))
      (map entry_rec s.run.retained ++ stop_recs s.tail.sign)
      (sym (rising_from_lem (or_empty s.run.held)) ∙ k.rises) k.fine
      (λ g. entries_join s.run.retained g (stop_wants (given s.tail.sign) (metadata_held s.tail.sign))
      (stop_recs s.tail.sign) f.entries
      (λ j. stop_join s.tail.sign j f.stop))

  pub rec_types : Typed s → all_of rec_typed (recs_of s) ≡ true
  rec_types t =
      keys_typed (or_empty s.run.held) (map entry_rec s.run.retained ++ stop_recs s.tail.sign) t.keys
      (entries_typed s.run.retained (stop_recs s.tail.sign) t.entries (stop_typed s.tail.sign t.sign))

-- ---- guards

first_passes : (a b c d e : Bool) (k : ℕ) → a ≡ false → b ≡ false → c ≡ false → d ≡ false → e ≡ false
    → first (guard 11 0 a ∷ guard 15 0 b ∷ guard 14 0 c ∷ guard 15 0 d ∷ guard 15 k e ∷ []) ≡ passes
unfolding first
first_passes a b c d e k p q r s t = rw (p, q, r, s, t)

held_again : (h : Option (List Change)) → (if given h then some (or_empty h) else none) ≡ h
held_again none = refl
held_again (some t) = refl

-- ---- "Reading back a written image gives the state without its batch"

pub read_written : (size : ℕ) (s : Log) → size ≤ largest_batch → well_formed s ≡ true → Typed s
    → read_image size (image_of s) ≡ replied (unbatched size s)
unfolding image_of image_guards read_image run_end whole
read_written size s n w t =
    let f : Formed s = formed_of s w in
    let h : Head = head_of s in
    let rs : List Rec = recs_of s in
    let bs : List ℕ = sealed (head_fields h) ++ run_bytes rs in
    let small : Small h = head_small s f t in
    let m : matches 0 (wants h) rs ≡ true = rec_match s f in
    let past : drop head_size bs ≡ run_bytes rs = drop_at (sealed (head_fields h)) (run_bytes rs) head_size
    (head_length h) in
    let long : length bs ≡ head_size + length (run_bytes rs) =
    length-append (sealed (head_fields h)) (run_bytes rs) ∙ ap (λ (k : ℕ). k + length (run_bytes rs)) (head_length h) in
    let back : head_at bs ≡ h = head_back h small (run_bytes rs) in
    let run : run_of (head_at bs) bs ≡ rs =
    ap₂ (λ (x : Head) (l : List ℕ). sound_run 0 (wants x) l) back (past ∙ sym (append-nil (run_bytes rs)))
    ∙ run_back (wants h) rs 0 [] m (rec_types s f t) in
    let whole_is : whole (head_at bs) bs ≡ true =
    both_true (eqb (length (run_of (head_at bs) bs)) (length (wants (head_at bs)))) _
    (eq-eqb _ _ (ap length run ∙ matches_length (wants h) rs 0 m ∙ ap (λ (x : Head). length (wants x)) (sym back)))
    (eq-eqb (run_end (head_at bs) bs) (length bs) (ap (λ (l : List Rec). head_size + length (run_bytes l)) run ∙ sym long))
    in
    let fourth : (ltb (length bs) 4 || not (eqb (value (take 2 bs)) head_mark)) ≡ false =
    ap₂ (λ (a b : Bool). a || not b) (le-ltb (length bs) 4 (omega arith))
    (eq-eqb _ _ (head_marked h small (run_bytes rs))) in
    ap₂ (λ (v : Verdict) (x : Log). settle v x)
    (first_passes (ltb largest_batch size) (ltb (length bs) 4 || not (eqb (value (take 2 bs)) head_mark))
    (not (eqb (value (take 2 (drop 2 bs))) 1)) (not (head_sound bs)) (not (whole (head_at bs) bs)) (run_end (head_at bs) bs)
    (le-ltb largest_batch size n) fourth (ap not (eq-eqb _ _ (head_format h small (run_bytes rs))))
    (ap not (head_sound_lem h small (run_bytes rs) (head_form s f))) (ap not whole_is))
    (ap₂ (state_from size) back run ∙ state)
  where
    ks : List Change
    ks = or_empty s.run.held

    state : state_from size (head_of s) (recs_of s) ≡ unbatched size s
    state =
        ap₂ (λ (es : List Change) (h : Option (List Change)). record {
          run = record { compacted = s.run.compacted; retained = es; held = h };
          tail = record { batched = []; size = size; sign = sign_in (recs_of s) };
          marks = s.marks;
        }) (entries_in_lem ks s.run.retained s.tail.sign)
        (ap (λ (l : List Change). if given s.run.held then some l else none)
        (keys_in_lem ks s.run.retained s.tail.sign) ∙ held_again s.run.held)
        ∙ ap (λ (g : Option StopSign). record
        { run = s.run; tail = record { batched = []; size = size; sign = g }; marks = s.marks })
        (sign_in_lem ks s.run.retained s.tail.sign)

-- ---- what was accepted

pub record Accepted (size : ℕ) (bs : List ℕ) (s : Log) : Type 0 where
  pub sized : size ≤ largest_batch
  pub marked : value (take 2 bs) ≡ head_mark
  pub first : value (take 2 (drop 2 bs)) ≡ 1
  pub headed : head_sound bs ≡ true
  pub complete : whole (head_at bs) bs ≡ true
  pub state : s ≡ state_from size (head_at bs) (run_of (head_at bs) bs)

record Passed (a b c d e : Bool) (x s : Log) : Type 0 where
  one : a ≡ false
  two : b ≡ false
  three : c ≡ false
  four : d ≡ false
  five : e ≡ false
  same : s ≡ x

never : {A : Type 0} (n k : ℕ) (s : Log) → ◌≡◌ {A = Answer Log} (refused n k) (replied s) → A
never n k s e = let z : ◌≡◌ {A = ℕ} 0 1 = cc in absurd (omega arith)

told : (x s : Log) → ◌≡◌ {A = Answer Log} (replied x) (replied s) → s ≡ x
told x s e = cc

passed : (a b c d e : Bool) (k : ℕ) (x s : Log)
    → settle (first (guard 11 0 a ∷ guard 15 0 b ∷ guard 14 0 c ∷ guard 15 0 d ∷ guard 15 k e ∷ [])) x ≡ replied s
    → Passed a b c d e x s
unfolding first
passed true b c d e k x s q = never 11 0 s q
passed false true c d e k x s q = never 15 0 s q
passed false false true d e k x s q = never 14 0 s q
passed false false false true e k x s q = never 15 0 s q
passed false false false false true k x s q = never 15 k s q
passed false false false false false k x s q = record
    { one = refl; two = refl; three = refl; four = refl; five = refl; same = told x s q }

not-not : (t : Bool) → not t ≡ false → t ≡ true
not-not true e = refl
not-not false e = sym e

or_second : (a b : Bool) → (a || not b) ≡ false → b ≡ true
or_second true b e = absurd (true≢false e)
or_second false b e = not-not b e

pub accepted : (size : ℕ) (bs : List ℕ) (s : Log) → read_image size bs ≡ replied s → Accepted size bs s
unfolding image_guards read_image
accepted size bs s q =
    let p = passed (ltb largest_batch size) (ltb (length bs) 4 || not (eqb (value (take 2 bs)) head_mark))
    (not (eqb (value (take 2 (drop 2 bs))) 1)) (not (head_sound bs)) (not (whole (head_at bs) bs)) (run_end (head_at bs) bs)
    (state_from size (head_at bs) (run_of (head_at bs) bs)) s q in
    record {
      sized = ltb-false largest_batch size p.one;
      marked = eqb-true (value (take 2 bs)) head_mark
          (or_second (ltb (length bs) 4) (eqb (value (take 2 bs)) head_mark) p.two);
      first = eqb-true (value (take 2 (drop 2 bs))) 1 (not-not _ p.three);
      headed = not-not _ p.four;
      complete = not-not _ p.five;
      state = p.same;
    }

-- ---- what a header in form says

pub record Heads (h : Head) : Type 0 where
  pub metadata : (h.stop || not h.metadata) ≡ true
  pub shot : (h.snapshot || eqb h.keys 0) ≡ true
  pub keys : h.keys ≤ key_room
  pub accepted : h.accepted ≡ accepted_of (head_numbers h)
  pub numbers : Sound (head_numbers h)

pub heads_of : (h : Head) → head_formed h ≡ true → Heads h
unfolding head_formed
heads_of h e =
    let e₁ = and_right (h.stop || not h.metadata) _ e in
    let e₂ = and_right (h.snapshot || eqb h.keys 0) _ e₁ in
    let e₃ = and_right (leb h.keys key_room) _ e₂ in
    record {
      metadata = and_left _ _ e;
      shot = and_left _ _ e₁;
      keys = leb-true h.keys key_room (and_left _ _ e₂);
      accepted = eqb-true h.accepted (accepted_of (head_numbers h)) (and_left _ _ e₃);
      numbers = sound_of (head_numbers h) (and_right (eqb h.accepted (accepted_of (head_numbers h))) _ e₃);
    }

-- ---- from header and records back to the same header and records

pub record Same (size : ℕ) (h : Head) (rs : List Rec) : Type 0 where
  pub head : head_of (state_from size h rs) ≡ h
  pub recs : recs_of (state_from size h rs) ≡ rs
  pub good : well_formed (state_from size h rs) ≡ true

module _ (size : ℕ) (h : Head) (rs : List Rec) (n : size ≤ largest_batch) (x : Heads h)
    (m : matches 0 (wants h) rs ≡ true) where
  abbrev kq : KeySplit h.keys 0 (replicate h.entries Entry ++ stop_wants h.stop h.metadata) rs
  kq = keys_split h.keys 0 (replicate h.entries Entry ++ stop_wants h.stop h.metadata) rs m

  abbrev eq : EntrySplit h.entries (stop_wants h.stop h.metadata) kq.more
  eq = entries_split h.entries kq.floor (stop_wants h.stop h.metadata) kq.more kq.next

  abbrev sq : StopSplit h.stop h.metadata eq.more
  sq = stop_split h.stop h.metadata eq.floor eq.more x.metadata eq.next

  rs_is : rs ≡ map key_rec kq.keys ++ (map entry_rec eq.entries ++ stop_recs sq.sign)
  rs_is = kq.is ∙ ap (λ (l : List Rec). map key_rec kq.keys ++ l)
      (eq.is ∙ ap (λ (l : List Rec). map entry_rec eq.entries ++ l) sq.is)

  keys_are : keys_in rs ≡ kq.keys
  keys_are = ap keys_in rs_is ∙ keys_in_lem kq.keys eq.entries sq.sign

  entries_are : entries_in rs ≡ eq.entries
  entries_are = ap entries_in rs_is ∙ entries_in_lem kq.keys eq.entries sq.sign

  sign-is : sign_in rs ≡ sq.sign
  sign-is = ap sign_in rs_is ∙ sign_in_lem kq.keys eq.entries sq.sign

  abbrev made : Log
  made = state_from size h rs

  -- the snapshot's keys, held or not
  no_keys : (t : Bool) (k : ℕ) (l : List Change) → (t || eqb k 0) ≡ true → length l ≡ k
      → or_empty (if t then some l else none) ≡ l
  no_keys true k l e q = refl
  no_keys false k [] e q = refl
  no_keys false k (c ∷ l) e q = absurd (let z : k ≡ 0 = eqb-true k 0 e in omega arith)

  keys_held_are : or_empty made.run.held ≡ kq.keys
  keys_held_are =
      ap (λ (l : List Change). or_empty (if h.snapshot then some l else none)) keys_are
      ∙ no_keys h.snapshot h.keys kq.keys x.shot kq.long

  recs_same : recs_of made ≡ rs
  recs_same =
      ap₂ (λ (a b : List Change). map key_rec a ++ (map entry_rec b ++ stop_recs (sign_in rs))) keys_held_are entries_are
      ∙ ap (λ (g : Option StopSign). map key_rec kq.keys ++ (map entry_rec eq.entries ++ stop_recs g)) sign-is
      ∙ sym rs_is

  given_if : (t : Bool) (l : List Change) → given (if t then some l else none) ≡ t
  given_if true l = refl
  given_if false l = refl

  long_entries : length (entries_in rs) ≡ h.entries
  long_entries = ap length entries_are ∙ eq.long

  stop_held : given (sign_in rs) ≡ h.stop
  stop_held = ap given sign-is ∙ sq.held

  accepted_same : accepted_of (numbers_of made) ≡ h.accepted
  unfolding accepted_of end_of
  accepted_same =
      ap₂ (λ (k : ℕ) (t : Bool). h.compacted + k + (if t then 1 else 0)) long_entries stop_held ∙ sym x.accepted

  head_made : head_of made ≡ h
  head_made =
      head_same h _ _ _ _ _ _ _ _ _ _ (given_if h.snapshot (keys_in rs)) stop_held
      (ap metadata_held sign-is ∙ sq.metadata)
      refl refl accepted_same long_entries (ap length keys_held_are ∙ kq.long) refl refl

  if_shot : (t : Bool) (l : List Change) → keys_formed l ≡ true → if_given keys_formed (if t then some l else none) ≡ true
  if_shot true l e = e
  if_shot false l e = refl

  made_sound : Sound (numbers_of made)
  unfolding accepted_of end_of
  made_sound =
      let y : Sound (head_numbers h) = x.numbers in
      let a : accepted_of (numbers_of made) ≡ accepted_of (head_numbers h) = accepted_same ∙ x.accepted in
      record {
        low = y.low;
        high = omega (arith, a, y.high);
        inside = omega (arith, a, y.inside);
        small = omega arith;
        quiet = λ q. refl;
        sized = n;
        room = omega (arith, long_entries, y.room);
      }

  made_good : well_formed made ≡ true
  unfolding all_of
  made_good = of_formed made (record {
    numbers = made_sound;
    entries = ap entries_formed entries_are ∙ eq.fine;
    batch = refl;
    snapshot = if_shot h.snapshot (keys_in rs)
        (ap keys_formed keys_are
        ∙ of_snapshot kq.keys (record { rises = rising_from_lem kq.keys ∙ kq.rises; fine = kq.fine })
        (omega (arith, kq.long, x.keys)));
    stop = ap (if_given sign_formed) sign-is ∙ sq.fine;
  })

  pub same : Same size h rs
  same = record { head = head_made; recs = recs_same; good = made_good }

  pub made_typed : Ballots h → all_of rec_typed rs ≡ true → Typed made
  made_typed b t =
      let p : PartsTyped kq.keys eq.entries sq.sign = parts_typed kq.keys eq.entries sq.sign
      (ap (all_of rec_typed) (sym rs_is) ∙ t) in
      record {
        promise = b.promise;
        round = b.round;
        entries = ap (all_of change_typed) entries_are ∙ p.entries;
        keys = ap (all_of change_typed) keys_held_are ∙ p.keys;
        sign = ap (if_given sign_typed) sign-is ∙ p.sign;
      }

-- ---- accepted bytes are the image of the state they give, which is well formed, without a batch, within the types

pub record Told (size : ℕ) (bs : List ℕ) (s : Log) : Type 0 where
  pub head : head_of s ≡ head_at bs
  pub image : image_of s ≡ bs
  pub good : well_formed s ≡ true
  pub typed : Typed s
  pub again : unbatched size s ≡ s

pub written_read : (size : ℕ) (bs : List ℕ) (s : Log) → are_bytes bs ≡ true → read_image size bs ≡ replied s
    → Told size bs s
unfolding image_of run_end whole
written_read size bs s b q =
    let a : Accepted size bs s = accepted size bs s q in
    let h : Head = head_at bs in
    let rs : List Rec = run_of (head_at bs) bs in
    let x : Heads h = heads_of h (head_formed_lem bs a.headed) in
    let r : Runs 0 (wants h) (drop head_size bs) = run_forth (wants h) 0 (drop head_size bs)
    (all_drop byte head_size bs b) in
    let m : matches 0 (wants h) rs ≡ true = r.all
    (eqb-true (length rs) (length (wants h)) (and_left _ _ a.complete)) in
    let y : Same size h rs = same size h rs a.sized x m in
    let end : head_size + length (run_bytes rs) ≡ length bs = eqb-true (run_end (head_at bs) bs) (length bs)
    (and_right (eqb (length rs) (length (wants h))) _ a.complete) in
    let none_left : drop (length (run_bytes rs)) (drop head_size bs) ≡ [] =
    drop_of_length-le (drop head_size bs) {i = length (run_bytes rs)} (omega (arith, end, length-drop head_size bs)) in
    let run : run_bytes rs ≡ drop head_size bs =
    sym (r.bytes ∙ ap (λ (l : List ℕ). run_bytes rs ++ l) none_left ∙ append-nil (run_bytes rs)) in
    record {
      head = ap head_of a.state ∙ y.head;
      image =
          ap image_of a.state
          ∙ ap₂ (λ (u : Head) (l : List Rec). sealed (head_fields u) ++ run_bytes l) y.head y.recs
          ∙ ap (λ (l : List ℕ). sealed (head_fields h) ++ l) run
          ∙ sym (head_forth bs b a.marked a.first a.headed);
      good = ap well_formed a.state ∙ y.good;
      typed = rw a.state (made_typed size h rs a.sized x m (head_typed bs b a.headed) r.typed);
      again = ap (unbatched size) a.state ∙ sym a.state;
    }

-- the batch and its size are not written
pub image_unbatched : (size : ℕ) (s : Log) → image_of (unbatched size s) ≡ image_of s
unfolding image_of accepted_of end_of
image_unbatched size s = refl

-- "two accepted images of one state are equal bytes", whatever the batch sizes given
pub one_image : (m n : ℕ) (a b : List ℕ) (s t : Log) → are_bytes a ≡ true → are_bytes b ≡ true
    → read_image m a ≡ replied s → read_image n b ≡ replied t
    → unbatched 0 s ≡ unbatched 0 t → a ≡ b
one_image m n a b s t p q u v e =
    sym (written_read m a s p u).image ∙ sym (image_unbatched 0 s) ∙ ap image_of e ∙ image_unbatched 0 t
    ∙ (written_read n b t q v).image

-- "reading an image counts as" a reload: at the log's own batch size it gives what a reload leaves
pub read_reloads : (s : Log) → well_formed s ≡ true → Typed s
    → read_image s.tail.size (image_of s) ≡ replied (effect reload s)
unfolding effect reloaded
read_reloads s w t = read_written s.tail.size s (formed_of s w).numbers.sized w t
