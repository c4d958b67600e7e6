-- Parts of the lent log against runs of the model's entries.
use Rattle.words.proofs.Prelude.{arith, ◌≡◌, refl, sym, ap, ◌∙◌, ℕ, ◌+◌, ◌-◌, ◌*◌, ◌/◌, ◌≤◌, ◌<◌, Bool, true, false}
use Rattle.words.proofs.Prelude.{◌&&◌, leb, le-leb, lt-leb, leb-true, if◌then◌else◌, List, [], append-nil, ◌++◌}
use Rattle.words.proofs.Prelude.{length-drop, take-append-drop, length, take, drop, length-take-le}
use native.Mathlib.Nat.{add-sub_cancel_left}
use Rattle.words.specs.Coded.{entries_at}
use Rattle.words.proofs.Tests.{and_left, and_right}
use Rattle.words.proofs.CodedLaws.{entries_length, entries_take, entries_drop, entries_append}
use Rattle.entry.specs.{Limits.width, Change.Change, Change.change_code, Change.entries_of, Change.entries_in}
use Rattle.entry.specs.{Guards.replied}
use Rattle.model.specs.{Numbers.Numbers, Numbers.end_of, Log.numbers_of, Read.span, Read.entries_between, Read.suffix_from}
use Rattle.model.specs.{Calls.query, Calls.get_entries, Calls.get_suffix, Calls.query_reply, Calls.query_guards}
use Rattle.state_cache.specs.{State.Raw, State.numbers_in, State.log_of, Inner.Ready, Run.run}
use Rattle.state_cache.proofs.Stands.{stands_of, numbers_are}
use Rattle.reading.specs.{Parts.part, Parts.word_at, Parts.part_at, Replies.lent_span, Replies.span_is}
use Rattle.reading.specs.{Inner.span_in, declared.Span.Span}
use Rattle.reading.proofs.Answers.{answer_is}

-- the part itself, as the code cuts it, and where it stands
module _ (first count : ℕ) (ws : List ℕ) (p : ℕ × ℕ) where
  pub part_none : length ws < (first + count) * width → ([] ≡ part first count ws) × (p ≡ part_at first count ws p)
  unfolding part part_at
  part_none h =
      let t = lt-leb ((first + count) * width) (length ws) h in
      (sym (rw t), sym (rw t))

  pub part_cut : (first + count) * width ≤ length ws
      → (take (first * width + count * width - first * width) (drop (first * width) ws) ≡ part first count ws)
      × (word_at (first * width) p ≡ part_at first count ws p)
  unfolding part part_at
  part_cut h =
      let t = le-leb ((first + count) * width) (length ws) h in (
        ap (λ (k : ℕ). take k (drop (first * width) ws)) (add-sub_cancel_left (first * width) (count * width))
            ∙ sym (rw t),
        sym (rw t),
      )

-- entries are read from the front alone
front : (count : ℕ) (l : List ℕ) → count * width ≤ length l
    → entries_of count (take (count * width) l) ≡ entries_of count l
unfolding entries_at
front count l h =
    let z : count + 0 ≡ count = omega arith in
    sym (append-nil (entries_of count (take (count * width) l)))
    ∙ sym (entries_append change_code count 0 (take (count * width) l) (drop (count * width) l)
    (length-take-le (count * width) l h))
    ∙ ap (λ (k : ℕ). entries_of k (take (count * width) l ++ drop (count * width) l)) z
    ∙ ap (entries_of count) (take-append-drop (count * width) l)

-- the words of a part that lies in the slice are its entries
pub part_entries : (first count : ℕ) (ws : List ℕ) → (first + count) * width ≤ length ws
    → entries_in (part first count ws) ≡ entries_of count (drop (first * width) ws)
unfolding part
part_entries first count ws h =
    let room : count * width ≤ length (drop (first * width) ws) = simp length-drop (omega arith) in
    let long : length (take (count * width) (drop (first * width) ws))
    ≡ count * width = length-take-le (count * width) (drop (first * width) ws) room in
    let half : length (take (count * width) (drop (first * width) ws)) / width ≡ count = omega (arith, long) in
    rw (le-leb ((first + count) * width) (length ws) h)
    (ap (λ (j : ℕ). entries_of j (take (count * width) (drop (first * width) ws))) half
    ∙ front count (drop (first * width) ws) room)

pub no_part : (ws : List ℕ) (p : ℕ × ℕ) → (part 0 0 ws ≡ []) × (part_at 0 0 ws p ≡ p)
no_part ws p =
    let cut = part_cut 0 0 ws p (omega arith) in
    let z : 0 * width * 8 + p.1 ≡ p.1 = omega arith in
    (sym cut.0, sym cut.1 ∙ ap {B = ℕ × ℕ} (λ (o : ℕ). (p.0, o)) z)

-- so many of the first n entries of some words, from the first-th on
pub shown_is : (n first count : ℕ) (ws : List ℕ) → first + count ≤ n
    → entries_of count (drop (first * width) ws) ≡ take count (drop first (entries_of n ws))
shown_is n first count ws h =
    sym (ap (take count) (entries_drop change_code first n ws (omega arith))
    ∙ entries_take change_code count (n - first) (drop (first * width) ws) (omega arith))

-- how many entries a part has
pub lent_count : (log : List ℕ) (first count : ℕ) → length (lent_span log first count).entries ≡ count
lent_count log first count = entries_length change_code count (drop (first * width) log)

-- an interval that is wholly held
pub held : (low from to last : ℕ) → (leb low from && (leb from to && leb to last)) ≡ true
    → (low ≤ from) × ((from ≤ to) × (to ≤ last))
held low from to last e =
    let e₂ = and_right (leb low from) _ e in (
      leb-true low from (and_left _ _ e),
      (leb-true from to (and_left _ _ e₂), leb-true to last (and_right (leb from to) _ e₂)),
    )

-- the reply by its test, as the code takes it
pub span_by : (from to last : ℕ) (n : Numbers) → last ≡ end_of n → (t : Bool)
    → (leb n.compacted from && (leb from to && leb to last)) ≡ t
    → ◌≡◌ {A = Span} (if t then record { first = from - n.compacted; count = to - from }
    else record { first = 0; count = 0 }) (span_in from to n)
unfolding span_in
span_by from to last n q t e = sym (rw (← q, e))

-- two choices by one test
pub both_by : {A B C : Type 0} (f : A → C) (g : B → C) (t : Bool) (a b : A) (u v : B) → (t ≡ true → f a ≡ g u)
    → (t ≡ false → f b ≡ g v)
    → f (if t then a else b) ≡ g (if t then u else v)
both_by f g true a b u v h k = h refl
both_by f g false a b u v h k = k refl

-- the entries of an interval
module _ (r : Raw) (g : Ready r) where
  abbrev c : ℕ
  c = r.index.compacted.0

  pub room : r.index.retained * width ≤ length r.log
  room = omega (arith, g.log.long, g.log.fits)

  pub numbers : numbers_of (log_of r) ≡ numbers_in r.index
  numbers = numbers_are (log_of r) r (stands_of r g.okay)

  says_between : (from to : ℕ) → replied (span_is r.log (span_in from to (numbers_in r.index)))
      ≡ replied (entries_between from to (log_of r))
  unfolding span_in entries_between log_of entries_at end_of
  says_between from to =
      rw (ap end_of numbers) (both_by (λ (s : Span). replied (span_is r.log s)) replied (leb c from
      && (leb from to && leb to (end_of (numbers_in r.index)))) _ _ _ _ (λ e.
      let h = held c from to (end_of (numbers_in r.index)) e in
      ap (λ (es : List Change). replied (span (from - c) es))
      (shown_is r.index.retained (from - c) (to - from) r.log (omega (arith, h.0, h.1.0, h.1.1))))
      (λ _. refl))

  pub entries_answer : (from to : ℕ)
      → replied (span_is r.log (span_in from to (numbers_in r.index))) ≡ (run (query (get_entries from to)) true r).answer
  unfolding query_reply query_guards
  entries_answer from to = says_between from to
      ∙ answer_is (get_entries from to) r g.okay refl refl (entries_between from to (log_of r)) refl

  pub suffix_answer : (from to : ℕ) → to ≡ end_of (numbers_in r.index)
      → replied (span_is r.log (span_in from to (numbers_in r.index))) ≡ (run (query (get_suffix from)) true r).answer
  unfolding query_reply query_guards suffix_from
  suffix_answer from to e =
      says_between from to
      ∙ ap (λ (j : ℕ). replied (entries_between from j (log_of r))) (e ∙ ap end_of (sym numbers))
      ∙ answer_is (get_suffix from) r g.okay refl refl (suffix_from from (log_of r)) refl
