-- Where the program stands once more of its input has come.
use Rattle.words.proofs.Prelude.{arith, ◌≡◌, refl, sym, ap, ◌∙◌, ℕ, ◌≤◌, ◌<◌, Bool, true, false, true≢false, ◌||◌, ltb}
use Rattle.words.proofs.Prelude.{leb, ltb-true, ltb-false, leb-false, if◌then◌else◌, Option, none, some, List, [], ◌∷◌}
use Rattle.words.proofs.Prelude.{append-nil, append_assoc, ◌++◌, length, take, length-take-le}
use Rattle.state_cache.specs.{declared.IndexRecord.IndexRecord, State.Raw, State.raw}
use Rattle.text.specs.{Parse.parse_of, Lines.Lines, Lines.line_ended, Lines.rest_with, Lines.lines_from, Lines.lines_of}
use Rattle.text.specs.{Lines.last_ended, Feeding.come, Feeding.fitting, Feeding.joined, Feeding.next_at, Rooms.input_line}
use Rattle.text.proofs.{Long.too_long, LineLaws.joined_fitting}
use Rattle.replay.specs.{Answering.Printout, Answering.printout, Answering.answering, Feeding.meaning}
use Rattle.replay.specs.{Feeding.last_start, Feeding.after, Input.replayed, Input.start_of, Input.Reached}

-- before the first byte
pub begun : (from x : Raw) (over : Bool) (len used : ℕ) (line out : List ℕ) → x ≡ from → len ≡ 0 → over ≡ false
    → used ≡ 0 → Reached from (lines_of []) x (come over len line) (take used out)
unfolding lines_from replayed
begun from x over len used line out e l o u = record { state = e; unended = rw (l, o); handed = []; answers = rw u }

-- the answers that wait are handed over to be written
pub handed_over : (from : Raw) (ls : Lines) (x : Raw) (line : Option (List ℕ)) (waits : List ℕ)
    → Reached from ls x line waits → Reached from ls x line []
handed_over from ls x line waits st = record {
  state = st.state;
  unended = st.unended;
  handed = st.handed ++ waits;
  answers = append-nil (st.handed ++ waits) ∙ st.answers;
}

-- a line kept as its buffer keeps it means what it means whole
meaning_whole : (l : List ℕ) → meaning (fitting input_line l) ≡ parse_of l
meaning_whole l = go (leb (length l) input_line) refl
  where
    go : (t : Bool) → leb (length l) input_line ≡ t → meaning (if t then some l else none) ≡ parse_of l
    go true e = refl
    go false e = sym (too_long l (leb-false (length l) input_line e))

-- one line more
replayed_more : (ls : List (List ℕ)) (l : List ℕ) (t : Printout)
    → replayed (ls ++ (l ∷ [])) t ≡ after (replayed ls t).text (answering (parse_of l) (replayed ls t).after)
unfolding replayed
replayed_more [] l t = refl
replayed_more (k ∷ ls) l t = replayed_more ls l (after t.text (answering (parse_of k) t.after))

-- the answers that wait, or none where they had to be written first
stay_or_go : (used : ℕ) (out : List ℕ) (gone : List ℕ)
    → (more : List ℕ) × (more ++ take (next_at last_start used) out ≡ gone ++ take used out)
stay_or_go used out gone = go (leb used last_start)
  where
    go : (t : Bool) → (more : List ℕ) × (more ++ take (if t then used else 0) out ≡ gone ++ take used out)
    go true = (gone, refl)
    go false = (gone ++ take used out, append-nil (gone ++ take used out))

-- a line's end: its answer is put after those that wait
module _ (from : Raw) (ls : Lines) (x : Raw) (line : Option (List ℕ)) (used : ℕ) (out : List ℕ)
    (st : Reached from ls x line (take used out)) where
  before : Printout
  before = replayed ls.ended (start_of from)

  answered : answering (meaning line) x ≡ answering (parse_of ls.rest) before.after
  unfolding before
  answered = rw (st.state, st.unended, meaning_whole ls.rest)

  ended : replayed (ls.ended ++ (ls.rest ∷ [])) (start_of from) ≡ after before.text (answering (meaning line) x)
  unfolding before
  ended = rw answered (replayed_more ls.ended ls.rest (start_of from))

  pub finished : (y : Raw) (text : List ℕ) (buffer : List ℕ)
      → printout text y ≡ after (take (next_at last_start used) out) (answering (meaning line) x)
      → Reached from (line_ended ls) y (come false 0 buffer) text
  unfolding before
  finished y text buffer e =
      let stay = stay_or_go used out st.handed in
      let u : List ℕ = (answering (meaning line) x).text in
      record {
        state = ap (λ (t : Printout). t.after) e ∙ sym (ap (λ (t : Printout). t.after) ended);
        unended = refl;
        handed = stay.0;
        answers =
            ap (λ (t : Printout). stay.0 ++ t.text) e
            ∙ sym (append_assoc stay.0 (take (next_at last_start used) out) u)
            ∙ ap (λ (l : List ℕ). l ++ u) (stay.1 ∙ st.answers)
            ∙ sym (ap (λ (t : Printout). t.text) ended);
      }

-- bytes that join the line, in a buffer of the size it has
pub kept : (from : Raw) (ls : Lines) (x y : IndexRecord) (log snapshot : List ℕ) (line line' : Option (List ℕ))
    (used used' room : ℕ) (out bytes : List ℕ)
    → y ≡ x → used' ≡ used → room ≡ input_line → line' ≡ joined room line bytes
    → Reached from ls (raw x log snapshot) line (take used out)
    → Reached from (rest_with bytes ls) (raw y log snapshot) line' (take used' out)
kept from ls x y log snapshot line line' used used' room out bytes i u r e st = rw (i, u) (record {
  state = st.state;
  unended = e ∙ rw (r, st.unended) (joined_fitting input_line ls.rest bytes);
  handed = st.handed;
  answers = st.answers;
})

-- a line whose bytes are all kept, and one that has more than the buffer
kept_whole : (room : ℕ) (bs us : List ℕ) → some us ≡ fitting room bs → bs ≡ us
kept_whole room bs us = go (leb (length bs) room)
  where
    go : (t : Bool) → some us ≡ (if t then some bs else none) → bs ≡ us
    go true e = cc
    go false e = let z : ◌≡◌ {A = ℕ} 0 1 = cc in absurd (omega arith)

kept_cut : (room : ℕ) (bs : List ℕ) → none ≡ fitting room bs → room < length bs
kept_cut room bs = go (leb (length bs) room) refl
  where
    go : (t : Bool) → leb (length bs) room ≡ t → none ≡ (if t then some bs else none) → room < length bs
    go true q e = let z : ◌≡◌ {A = ℕ} 0 1 = cc in absurd (omega arith)
    go false q e = leb-false (length bs) room q

-- the last line has a byte exactly if one has come
module _ (ls : Lines) (len : ℕ) (line : List ℕ) where
  some_rest : (over : Bool) → come over len line ≡ fitting input_line ls.rest → (over || ltb 0 len) ≡ true
      → len ≤ length line → 0 < length ls.rest
  some_rest true e t h = omega (arith, kept_cut input_line ls.rest e)
  some_rest false e t h = omega (arith, ap length (kept_whole input_line ls.rest (take len line) e), length-take-le len line h, ltb-true 0 len t)

  no_rest : (over : Bool) → come over len line ≡ fitting input_line ls.rest → (over || ltb 0 len) ≡ false
      → length ls.rest ≡ 0
  no_rest true e t = absurd (true≢false t)
  no_rest false e t =
      let z : len ≡ 0 = omega (arith, ltb-false 0 len t) in
      ap length (kept_whole input_line ls.rest (take len line) e ∙ ap (λ (n : ℕ). take n line) z)

  by_rest : (rest : List ℕ) → 0 < length rest
      → ◌≡◌ {A = Lines} (elim rest [ [] ↦ ls | b ∷ bs ↦ line_ended ls ]) (line_ended ls)
  by_rest [] h = absurd (omega arith)
  by_rest (b ∷ bs) h = refl

  by_none : (rest : List ℕ) → length rest ≡ 0 → ◌≡◌ {A = Lines} (elim rest [ [] ↦ ls | b ∷ bs ↦ line_ended ls ]) ls
  by_none [] h = refl
  by_none (b ∷ bs) h = absurd (omega arith)

  module _ (from x : Raw) (waits : List ℕ) (over : Bool) (st : Reached from ls x (come over len line) waits) where
    pub last_line : (over || ltb 0 len) ≡ true → len ≤ length line → last_ended ls ≡ line_ended ls
    last_line t h = by_rest ls.rest (some_rest over st.unended t h)

    pub no_last_line : (over || ltb 0 len) ≡ false → last_ended ls ≡ ls
    no_last_line t = by_none ls.rest (no_rest over st.unended t)
