-- The operations one after the other: what is left of a list, from the state so far, comes to what the whole list does.
use Rattle.words.proofs.Prelude.{arith, ◌≡◌, refl, sym, ap, ◌∙◌, ℕ, suc, ◌+◌, ◌≤◌, ◌<◌, add-one, true, ◌&&◌, not, leb}
use Rattle.words.proofs.Prelude.{List, [], ◌∷◌, map, drop_of_length-le, length, length-map, drop, drop-cons, get_or}
use lib.ListN.{get_or-map}
use Rattle.words.specs.All.{all_of}
use Rattle.words.proofs.{Tests.and_right, Alls.all_head, Alls.all_drop}
use Rattle.entry.specs.{Limits.most_ops, Guards.Verdict, Guards.passes, Guards.refuses, Guards.first, Guards.Answer}
use Rattle.entry.specs.{Guards.refused, Guards.replied, Guards.refused_by, Guards.settle, Change.entries_formed}
use Rattle.entry.specs.{Sign.sign_formed, Refusals.number_of, Refusals.carried_of, declared.Refusal.Refusal}
use Rattle.entry.proofs.GuardLaws.{first_left, first_right}
use Rattle.model.specs.{Numbers.Numbers, Log.if_given, Log.keys_formed, Backend.Op, Backend.Lent, Backend.supplied}
use Rattle.model.specs.{Backend.ops_formed, Backend.Midst, Backend.step, Backend.steps, Backend.step_guards}
use Rattle.model.specs.{Backend.last_guards, Backend.op_guards, Backend.midst, Backend.write_guards, Backend.list_written}
use Rattle.model.specs.{Calls.write, Calls.malformed, Calls.further, Calls.effect, Calls.reply_of}
use Rattle.state_cache.specs.{State.Raw, State.raw, State.numbers_in, State.formed, State.log_of, Run.outcome, Run.run}
use Rattle.state_cache.specs.{declared.IndexRecord.IndexRecord}
use Rattle.std.specs.Prelude.{Result}
use Rattle.state_cache.proofs.{Stands.stands_of, Runs.call_refused, Runs.call_stands}
use Rattle.backend.specs.{declared.Op.Op as CodeOp, declared.inner.step.Stepped.Stepped, Ops.op_of}
use Rattle.backend.specs.{Inner.midst_of, Inner.Kept}
use Rattle.backend.specs.{Inner.Came, Inner.Stood, Inner.Wrote, Inner.no_op}
use Rattle.backend.proofs.{Lasts.numbers_of_lem, Lasts.last_formed}

-- a verdict is known by what it settles
settle_refused : (v : Verdict) (n k : ℕ) → ◌≡◌ {A = Answer (Unit {0})} (refused n k) (settle v tt) → refuses n k ≡ v
settle_refused passes n k e = let z : ◌≡◌ {A = ℕ} 0 1 = cc in absurd (omega arith)
settle_refused (refuses a b) n k e = cc

settle_replied : (v : Verdict) → ◌≡◌ {A = Answer (Unit {0})} (replied tt) (settle v tt) → passes ≡ v
settle_replied passes e = refl
settle_replied (refuses a b) e = let z : ◌≡◌ {A = ℕ} 0 1 = cc in absurd (omega arith)

-- what is left of a list comes to a verdict, and to a state
pub record Left (n : Numbers) (l : Lent) (ops : List Op) (m : Midst) (asked : Verdict) (end : Midst) : Type 0 where
  pub verdict : first (op_guards n l ops m) ≡ asked
  pub after : steps l ops m ≡ end

module _ (n : Numbers) (l : Lent) (codes : List CodeOp) (asked : Verdict) (end : Midst) where
  abbrev ops : List Op
  ops = map op_of codes

  module _ (m : Midst) (i : ℕ) (left : Left n l (drop i ops) m asked end) where
    module _ (h : i < length codes) where
      abbrev o : Op
      o = op_of (get_or codes i no_op)

      cons : drop i ops ≡ o ∷ drop (suc i) ops
      cons =
          drop-cons ops i (op_of no_op) (omega (arith, length-map codes op_of))
          ∙ ap (λ (p : Op). p ∷ drop (suc i) ops) (get_or-map op_of codes i no_op)

      pub is_supplied : all_of (supplied l) ops ≡ true → supplied l o ≡ true
      is_supplied e = all_head (supplied l) o (drop (suc i) ops) (rw (← cons) (all_drop (supplied l) i ops e))

      pub turn_refused : (v w : ℕ) → refuses v w ≡ first (step_guards n l o m) → refuses v w ≡ asked
      unfolding op_guards
      turn_refused v w e =
          first_left (step_guards n l o m) (op_guards n l (drop (suc i) ops) (step l o m)) v w e
          ∙ ap (λ (os : List Op). first (op_guards n l os m)) (sym cons) ∙ left.verdict

      pub turn_left : (s : Stepped) (log snapshot : List ℕ) → Came (step_guards n l o m) (step l o m) s log snapshot
          → Left n l (drop (i + 1) ops) (midst_of s.start (raw s.index log snapshot)) asked end
      unfolding op_guards steps
      turn_left s log snapshot g =
          rw (add-one i, g.after)
          (record {
            verdict =
                sym (first_right (step_guards n l o m) (op_guards n l (drop (suc i) ops) (step l o m)) g.stands)
                ∙ ap (λ (os : List Op). first (op_guards n l os m)) (sym cons) ∙ left.verdict;
            after = ap (λ (os : List Op). steps l os m) (sym cons) ∙ left.after;
          })

    pub ended : length codes ≤ i → Left n l [] m asked end
    ended h = rw (drop_of_length-le ops {i = i} (omega (arith, length-map codes op_of))) at left

-- the whole list, on a well-formed state
module _ (r : Raw) (l : Lent) (ops : List Op) where
  abbrev pub asked : Verdict
  asked = first (write_guards l ops (log_of r))

  abbrev pub end : Midst
  end = steps l ops (midst (log_of r))

  pub all_left : Left (numbers_in r.index) l ops (midst_of r.index.compacted.0 r) asked end
  unfolding write_guards log_of
  all_left = record {
    verdict = ap (λ (n : Numbers). first (op_guards n l ops (midst (log_of r))))
        (sym (numbers_of_lem r));
    after = refl;
  }

  module _ (n : Numbers) (start : ℕ) (x : Raw) (h : Kept x) (left : Left n l [] (midst_of start x) asked end) where
    abbrev judged : Answer (Unit {0})
    judged = settle (first (last_guards n (midst_of start x))) tt

    pub last_refused : (f : Refusal) → refused_by f ≡ judged
        → refuses (number_of f) (carried_of f) ≡ asked
    unfolding op_guards
    last_refused f e = settle_refused _ (number_of f) (carried_of f) e ∙ left.verdict

    pub stood : replied tt ≡ judged → Stood r l ops x
    unfolding op_guards steps list_written
    stood e =
        let p = settle_replied _ e in
        record {
          stands = p ∙ left.verdict;
          formed = last_formed n start x h (sym p);
          after = ap (λ (m : Midst). m.log) left.after;
        }

  module _ (ok : formed r ≡ true) (fine : ops_formed l ops ≡ true) where
    pub write_refused : (f : Refusal) → refuses (number_of f) (carried_of f) ≡ asked
        → outcome (refused_by f) r ≡ run (write l ops) true r
    unfolding malformed further
    write_refused f e = call_refused (write l ops) r ok (ap not fine) (number_of f) (carried_of f) e

    pub write_stands : (x : Raw) → Stood r l ops x → outcome (replied tt) x ≡ run (write l ops) true r
    unfolding malformed further effect reply_of
    write_stands x w =
        call_stands (write l ops) r ok (ap not fine) w.stands tt x refl (rw w.after at (stands_of x w.formed))

pub ops_supplied : (l : Lent) (ops : List Op) → ops_formed l ops ≡ true → all_of (supplied l) ops ≡ true
unfolding ops_formed
ops_supplied l ops e =
    let e₁ = and_right (leb 1 (length ops) && leb (length ops) most_ops) _ e in
    let e₂ = and_right (entries_formed l.entries) _ e₁ in
    let e₃ = and_right (if_given keys_formed l.snapshot) _ e₂ in
    and_right (if_given sign_formed l.sign) _ e₃

-- on copies of the words
module _ (i : IndexRecord) (log log' snapshot snapshot' : List ℕ) (p : log' ≡ log) (q : snapshot' ≡ snapshot) where
  pub wrote_copy : (l : Lent) (ops : List Op) (a : Result IndexRecord Refusal) (m n : List ℕ)
      → Wrote (raw i log' snapshot') l ops a m n → Wrote (raw i log snapshot) l ops a m n
  wrote_copy l ops a m n w = rw (p, q) at w
