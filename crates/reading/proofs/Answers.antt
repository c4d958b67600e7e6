-- The answer of a call that changes nothing: refusals 12 and 11, and the reply.
use Rattle.words.proofs.Prelude.{◌≡◌, refl, sym, ap, ◌∙◌, ℕ, Bool, true, false, []}
use mathlib.Core.Path.{subst}
use Rattle.entry.specs.Guards.{Verdict, passes, refuses, first, Answer, refused, replied}
use Rattle.model.specs.Lookup.{lookup_reply}
use Rattle.model.specs.Calls.{Query, QueryReply, query, lookup, query_malformed, query_guards, query_reply, malformed}
use Rattle.model.specs.Calls.{further, effect, reply_of}
use Rattle.state_cache.specs.State.{Raw, formed, log_of, raw_of}
use Rattle.state_cache.specs.Run.{Outcome, chosen, verdict_on, run}
use Rattle.state_cache.specs.Inner.{Ready}
use Rattle.state_cache.proofs.{Stands.stands_of, Stands.ready_of, Stands.raw_is, Runs.ill_formed, Runs.bad_call, Runs.call_stands}

module _ (q : Query) (r : Raw) where
  abbrev answer_of : Outcome (QueryReply q) → Answer (QueryReply q)
  answer_of o = o.answer

  pub ill_formed_answer : formed r ≡ false → refused 12 0 ≡ (run (query q) true r).answer
  ill_formed_answer e = ap answer_of (ill_formed (query q) true r e)

  module _ (ok : formed r ≡ true) where
    pub bad_answer : query_malformed q ≡ true → refused 11 0 ≡ (run (query q) true r).answer
    unfolding malformed
    bad_answer m = ap answer_of (bad_call (query q) r ok m)

    pub answer_is : query_malformed q ≡ false → query_guards q (log_of r) ≡ [] → (y : QueryReply q)
        → y ≡ query_reply q (log_of r) → replied y ≡ (run (query q) true r).answer
    unfolding malformed further effect reply_of first
    answer_is m g y e = ap answer_of (call_stands (query q) r ok m (rw g) y r e (stands_of r ok))

-- the state as the code tests it first
pub unformed_answer : (q : Query) (r : Raw) (t : Bool) → t ≡ formed r → t ≡ false
    → refused 12 0 ≡ (run (query q) true r).answer
unformed_answer q r t e p = ill_formed_answer q r (sym e ∙ p)

pub ready_by : (r : Raw) (t : Bool) → t ≡ formed r → t ≡ true → Ready r
ready_by r t e p = ready_of r (sym e ∙ p)

-- what a lookup in a well-formed log answers
pub lookup_answer : (r : Raw) → formed r ≡ true → (k : ℕ)
    → (run (query (lookup k)) true r).answer ≡ replied (lookup_reply k (log_of r))
unfolding query_reply query_guards
lookup_answer r ok k = sym (answer_is (lookup k) r ok refl refl (lookup_reply k (log_of r)) refl)

-- what holds of every refusal and of the reply of a call that stands holds of its answer
pub answered : (q : Query) (r : Raw) (P : Answer (QueryReply q) → Type 0) → ((n k : ℕ) → P (refused n k))
    → (formed r ≡ true → query_malformed q ≡ false → P (run (query q) true r).answer) → P (run (query q) true r).answer
answered q r P refusals stands = go (formed r) (query_malformed q) refl refl
  where
    go : (a b : Bool) → formed r ≡ a → query_malformed q ≡ b → P (run (query q) true r).answer
    go false b e m = subst P (ill_formed_answer q r e) (refusals 12 0)
    go true true e m = subst P (bad_answer q r e m) (refusals 11 0)
    go true false e m = stands e m

-- such a call leaves the record and every lent word as they were
pub query_keeps : (q : Query) (r : Raw) → (run (query q) true r).after ≡ r
query_keeps q r = go (formed r) refl
  where
    by : (v : Verdict) → formed r ≡ true → (chosen v (reply_of (query q) (log_of r)) (raw_of (log_of r)) r).after ≡ r
    by passes e = raw_is r e
    by (refuses n k) e = refl

    go : (b : Bool) → formed r ≡ b → (run (query q) true r).after ≡ r
    go true e = unfold run effect in by (verdict_on (query q) true r) e
    go false e = ap (λ (o : Outcome (QueryReply q)). o.after) (sym (ill_formed (query q) true r e))
