-- A snapshot created from a lent state: refusals 12, 11, 3, 2, 16 and 8, or the fold written out.
use Rattle.words.proofs.Prelude.{arith, ◌≡◌, refl, sym, ap, ◌∙◌, ℕ, ◌+◌, ◌-◌, ◌≤◌, ◌<◌, Bool, true, false, ltb, lt-ltb}
use Rattle.words.proofs.Prelude.{le-ltb, some, List}
use Rattle.std.specs.Prelude.{cond, eqb}
use Rattle.std.specs.declared.cmp.Ordering.TheVariants.{Less, Equal, Greater}
use Rattle.std.specs.Ordering.{nat_cmp, is_lt}
use Rattle.entry.specs.Change.{Change}
use Rattle.entry.specs.Guards.{Verdict, passes, refuses, first, Answer, refused, settle}
use Rattle.entry.proofs.GuardLaws.{passing, stopping, found, first_goes_on}
use Rattle.snapshot.specs.Calls.{outcome as snapshot_outcome, written_by, fold_guards, written_out}
use Rattle.snapshot.specs.Inner.{fold_written, folded_out}
use Rattle.model.specs.{Numbers.Numbers, Log.Log, Log.numbers_of, Log.folded_to, Log.hole, Compact.target}
use Rattle.model.specs.{Compact.past_decided, Compact.folded_upto, Compact.create_guards, Compact.created, Calls.Call}
use Rattle.model.specs.{Calls.query, Calls.create, Calls.malformed, Calls.further, Calls.query_guards, Calls.effect}
use Rattle.model.specs.{Calls.reply_of, Calls.query_reply, Inner.Sound}
use Rattle.model.proofs.{Forms.ranges, Keeps.target_least}
use Rattle.state_cache.specs.{State.Raw, State.numbers_in, State.formed, State.log_of, Run.Outcome, Run.run}
use Rattle.state_cache.specs.Inner.{hole_in}
use Rattle.state_cache.proofs.Stands.{Stands, stands_of, hole_is}
use Rattle.state_cache.proofs.Runs.{ill_formed, not_whole, call_refused, call_stands}
use Rattle.compaction.proofs.Folding.{numbers, fold_is}

-- the derived order of two indexes, as a test of their numbers
lt_by : (t u : Bool) → is_lt (cond t Less (cond u Equal Greater)) ≡ t
lt_by true u = refl
lt_by false true = refl
lt_by false false = refl

pub index_lt : (x y : ℕ) → is_lt (nat_cmp x y) ≡ ltb x y
index_lt x y = lt_by (ltb x y) (eqb x y)

-- no target is below compacted that is asked for at or above it
pub target_from : (i : ℕ) (n : Numbers) → Sound n → n.compacted ≤ i → n.compacted ≤ target (some i) n
target_from i n f h = omega (arith, target_least i n, (ranges n f).low)

module _ (r : Raw) (i : ℕ) (out : List ℕ) where
  abbrev c : Call
  c = query (create i)

  abbrev s : Log
  s = log_of r

  pub create_ill_formed : (whole : Bool) → formed r ≡ false
      → snapshot_outcome (refused 12 0) out ≡ written_out (run c whole r).answer out
  create_ill_formed whole e = ap (λ (o : Outcome (List Change)). written_out o.answer out) (ill_formed c whole r e)

  module _ (ok : formed r ≡ true) where
    pub create_malformed : (whole : Bool) → whole ≡ false
        → snapshot_outcome (refused 11 0) out ≡ written_out (run c whole r).answer out
    create_malformed whole e = ap (λ (o : Outcome (List Change)). written_out o.answer out) (not_whole c whole r ok e)

    st : Stands s r
    st = stands_of r ok

    answers : (v : Verdict) → v ≡ first (further c s) → settle v (created i s) ≡ (run c true r).answer
    unfolding malformed effect reply_of query_reply
    answers passes e = ap (λ (o : Outcome (List Change)). o.answer) (call_stands c r ok refl e (created i s) r refl st)
    answers (refuses n k) e = ap (λ (o : Outcome (List Change)). o.answer) (call_refused c r ok refl n k e)

    told : (v : Verdict) → v ≡ first (further c s)
        → written_by v (created i s) out ≡ written_out (run c true r).answer out
    told v e = ap (λ (a : Answer (List Change)). written_out a out) (answers v e)

    pub create_below : i < r.index.compacted.0
        → snapshot_outcome (refused 3 r.index.compacted.0) out ≡ written_out (run c true r).answer out
    unfolding further query_guards create_guards
    create_below h =
        told (refuses 3 r.index.compacted.0)
        (found {gs = create_guards i s} {v = refuses 3 r.index.compacted.0}
        (stopping (lt-ltb i s.run.compacted (omega (arith, st.run.start, h))) (sym st.run.start)))

    module _ (low : r.index.compacted.0 ≤ i) where
      from : ltb i s.run.compacted ≡ false
      from = le-ltb i s.run.compacted (omega (arith, st.run.start, low))

      pub create_above : past_decided (some i) (numbers_in r.index) ≡ true
          → snapshot_outcome (refused 2 r.index.decided.0) out ≡ written_out (run c true r).answer out
      unfolding further query_guards create_guards
      create_above h =
          told (refuses 2 r.index.decided.0)
          (found {gs = create_guards i s} {v = refuses 2 r.index.decided.0}
          (passing from (stopping (rw (numbers r ok) h) (sym st.marks.index))))

      pub create_holed : past_decided (some i) (numbers_in r.index) ≡ false → hole_in r.index ≡ true
          → snapshot_outcome (refused 16 0) out ≡ written_out (run c true r).answer out
      unfolding further query_guards create_guards
      create_holed h e =
          told (refuses 16 0)
          (found {gs = create_guards i s} {v = refuses 16 0}
          (passing from (passing (rw (numbers r ok) h) (stopping (hole_is s r st ∙ e) refl))))

      pub create_folds : past_decided (some i) (numbers_in r.index) ≡ false → hole_in r.index ≡ false → (to : ℕ)
          → to ≡ target (some i) (numbers_in r.index) → to ≤ r.index.compacted.0 + r.index.retained
          → folded_out r.index.keys r.snapshot (to - r.index.compacted.0) r.log out
          ≡ written_out (run c true r).answer out
      create_folds h whole to e in_run =
          ap (λ (es : List Change). fold_written es out) (fold_is r ok to in_run ∙ asked)
          ∙ told (first (fold_guards (created i s))) verdict
        where
          asked : folded_to to s.run ≡ created i s
          asked = unfold folded_upto in
              ap (λ (j : ℕ). folded_to j s.run) (e ∙ ap (target (some i)) (sym (numbers r ok)))

          verdict : first (fold_guards (created i s)) ≡ first (further c s)
          verdict = unfold further query_guards create_guards in
              sym (first_goes_on 3 s.run.compacted (ltb i s.run.compacted) _ from
              ∙ first_goes_on 2 s.marks.decided (past_decided (some i) (numbers_of s)) _ (rw (numbers r ok) h)
              ∙ first_goes_on 16 0 (hole s.run) _ (hole_is s r st ∙ whole))
