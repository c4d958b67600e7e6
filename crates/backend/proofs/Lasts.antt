-- What is judged after the last operation: refusal 9, then 12. In the midst of a list the words are always in form, so
-- the state is well formed exactly if its log is.
use Rattle.words.proofs.Prelude.{arith, ◌≡◌, refl, sym, ap, ◌∙◌, ℕ, ◌+◌, Bool, true, false, and-true, ◌&&◌, not, eqb}
use Rattle.words.proofs.Prelude.{ltb, not-false, eq-eqb, List, length}
use Rattle.words.proofs.{Tests.and_left, Tests.and_right, Tests.both_true, CodedLaws.entries_length}
use Rattle.entry.specs.Limits.{last_index, log_words, snapshot_words}
use Rattle.entry.specs.Change.{Change, change_code, entries_of, stored_in, Laid}
use Rattle.entry.specs.Guards.{Guard, Verdict, passes, refuses, first, Answer, refused, replied, settle}
use Rattle.entry.proofs.GuardLaws.{Finds, clear_all, passing, stopping, found, passed}
use Rattle.entry.proofs.SliceLaws.{laid_stored, stored_laid}
use Rattle.snapshot.specs.{Folds.rising, Calls.snapshot_formed}
use Rattle.model.specs.{Numbers.Numbers, Numbers.end_of, Numbers.accepted_of, Numbers.numbers_formed, Log.numbers_of}
use Rattle.model.specs.{Log.well_formed, Backend.last_guards}
use Rattle.state_cache.specs.{State.Raw, State.numbers_in, State.one_if, State.sign_held, State.snapshot_held, State.formed}
use Rattle.state_cache.specs.{State.log_of, declared.IndexRecord.IndexRecord}
use Rattle.state_cache.proofs.Stands.{snapshot_tests, log_formed, given_by}
use Rattle.backend.specs.Inner.{midst_of, Kept}

-- the numbers of the log that a record and words stand for are the record's
pub numbers_of_lem : (r : Raw) → numbers_of (log_of r) ≡ numbers_in r.index
unfolding log_of
numbers_of_lem r = fields _ _ _ (entries_length change_code _ _) (entries_length change_code _ _)
    (given_by r.index.stop_held r.index.stop)
  where
    fields : (a b : ℕ) (t : Bool) → a ≡ r.index.retained → b ≡ r.index.batched → t ≡ r.index.stop_held
        → ◌≡◌ {A = Numbers} (record {
          compacted = r.index.compacted.0;
          decided = r.index.decided.0;
          retained = a;
          batched = b;
          size = r.index.batch_size;
          stop = t;
        }) (numbers_in r.index)
    fields a b t p q e = rw (p, q, e)

stored_of : (words n : ℕ) (ws : List ℕ) → Laid words n ws → stored_in words n ws ≡ true
stored_of words n ws l =
    let es : List Change = entries_of n ws in
    let k : length es ≡ n = entries_length change_code n ws in
    ap (λ (j : ℕ). stored_in words j ws) (sym k) ∙ ap (stored_in words (length es)) (laid_stored words n ws l)
    ∙ stored_laid words es (omega (arith, l.fits)) l.fine

-- the words are in form, so the numbers decide
pub formed_numbers : (r : Raw) → Kept r → numbers_formed (numbers_in r.index) ≡ formed r
unfolding formed snapshot_formed
formed_numbers r h = sym (and-true (numbers_formed (numbers_in r.index)))
    ∙ ap (λ (t : Bool). numbers_formed (numbers_in r.index) && t) (sym rest)
  where
    rest : (sign_held r.index && (stored_in log_words (r.index.retained + r.index.batched) r.log
        && snapshot_held r.index r.snapshot)) ≡ true
    rest =
        both_true (sign_held r.index) _ h.sign
        (both_true (stored_in log_words (r.index.retained + r.index.batched) r.log)
        _ (stored_of log_words _ r.log h.log)
        (snapshot_tests r.index r.snapshot
        ∙ both_true (stored_in snapshot_words r.index.keys r.snapshot
        && rising (entries_of r.index.keys r.snapshot)) _
        (both_true (stored_in snapshot_words r.index.keys r.snapshot)
        _ (stored_of snapshot_words _ r.snapshot h.snapshot.laid) h.snapshot.rises)
        h.none_held))

pub formed_is : (r : Raw) → Kept r → formed r ≡ well_formed (log_of r)
formed_is r h = go (formed r) (well_formed (log_of r)) refl refl
  where
    back : well_formed (log_of r) ≡ true → formed r ≡ true
    back e = sym (formed_numbers r h)
        ∙ (unfold well_formed in ap numbers_formed (sym (numbers_of_lem r))
        ∙ and_left (numbers_formed (numbers_of (log_of r))) _ e)

    go : (a b : Bool) → formed r ≡ a → well_formed (log_of r) ≡ b → formed r ≡ well_formed (log_of r)
    go true b p q = p ∙ sym (log_formed r p)
    go false true p q = back q ∙ sym q
    go false false p q = p ∙ sym q

-- the sum as it is judged: compacted, the retained entries, and the stop-sign and the batch after them
pub past_sum : (x : IndexRecord) (one : ℕ) → one ≡ one_if x.stop_held → (t : Bool)
    → t ≡ ltb last_index (x.compacted.0 + x.retained + (one + x.batched))
    → t ≡ ltb last_index (accepted_of (numbers_in x) + x.batched)
unfolding accepted_of end_of
past_sum x one e t q =
    let same : x.compacted.0 + x.retained + (one + x.batched)
    ≡ x.compacted.0 + x.retained + one_if x.stop_held + x.batched = omega (arith, e) in
    q ∙ ap (ltb last_index) same

module _ (n : Numbers) (start : ℕ) (r : Raw) (h : Kept r) where
  abbrev gs : List Guard
  gs = last_guards n (midst_of start r)

  abbrev asked : ℕ
  asked = accepted_of (numbers_of (log_of r)) + length (log_of r).tail.batched

  abbrev past : Bool
  past = ltb last_index (accepted_of (numbers_in r.index) + r.index.batched)

  past_is : ltb last_index asked ≡ past
  past_is = ap (λ (k : Numbers). ltb last_index (accepted_of k + k.batched)) (numbers_of_lem r)

  abbrev Says : Answer (Unit {0}) → Type 0
  Says a = a ≡ settle (first gs) tt

  judged : (v : Verdict) → Finds gs v → Says (settle v tt)
  judged v f = ap (λ (w : Verdict). settle w tt) (found f)

  pub last_past : (last : ℕ) → last ≡ accepted_of n → past ≡ true → Says (refused 9 last)
  unfolding last_guards
  last_past last p over = judged (refuses 9 last) (stopping (past_is ∙ over) p)

  module _ (inside : past ≡ false) where
    last_ill : (eqb start r.index.compacted.0 && well_formed (log_of r)) ≡ false → Says (refused 12 0)
    unfolding last_guards log_of
    last_ill e = judged (refuses 12 0) (passing (past_is ∙ inside) (stopping (ap not e) refl))

    pub last_apart : eqb start r.index.compacted.0 ≡ false → Says (refused 12 0)
    last_apart e = last_ill (rw e)

    pub last_unformed : formed r ≡ false → Says (refused 12 0)
    last_unformed e = last_ill (go (eqb start r.index.compacted.0))
      where
        go : (t : Bool) → (t && well_formed (log_of r)) ≡ false
        go true = sym (formed_is r h) ∙ e
        go false = refl

    pub last_stands : start ≡ r.index.compacted.0 → formed r ≡ true → Says (replied tt)
    unfolding last_guards log_of
    last_stands p e =
        judged passes (passing (past_is ∙ inside)
        (passing (ap not (both_true (eqb start r.index.compacted.0) _ (eq-eqb start r.index.compacted.0 p)
        (log_formed r e))) clear_all))

  -- a list that stands leaves a well-formed state
  pub last_formed : first gs ≡ passes → formed r ≡ true
  unfolding last_guards
  last_formed e =
      formed_is r h
      ∙ and_right (eqb start (log_of r).run.compacted) (well_formed (log_of r))
      (not-false (eqb start (log_of r).run.compacted && well_formed (log_of r)) (passed gs e).1.0)
