-- A lent slice of operations gathered into a list by value: up to eight are the list's, and a ninth makes it no
-- request.
use Rattle.words.proofs.Prelude.{arith, ◌≡◌, refl, sym, ap, ap₂, ◌∙◌, ℕ, suc, ◌+◌, ◌≤◌, ◌<◌, add-one, Bool, true, false}
use Rattle.words.proofs.Prelude.{◌&&◌, leb, lt-ltb, le-ltb, le-leb, lt-leb, List, [], ◌∷◌, append-nil, append_assoc}
use Rattle.words.proofs.Prelude.{◌++◌, map, length-append, length-set, length-map, length, take}
use lib.{ListN.set, ListN.length-replicate, Seq.take-suc-set}
use Rattle.words.proofs.Tests.{reach, reached, short}
use Rattle.entry.specs.{Limits.most_ops, Guards.refused}
use Rattle.model.specs.{Backend.Lent, Backend.ops_formed, Calls.write, Calls.malformed}
use Rattle.state_cache.specs.{State.Raw, State.formed, Run.outcome, Run.run}
use Rattle.state_cache.proofs.Runs.{ill_formed, not_whole, bad_call}
use Rattle.backend.specs.{declared.Op.Op as CodeOp, declared.OpList.OpList, declared.Lent.Lent as CodeLent}
use Rattle.backend.specs.{Ops.op_of, Ops.ops_in, Ops.lent_of, Ops.whole_lent, Ops.whole_list, Inner.no_op, Inner.no_ops}
use Rattle.backend.specs.{Inner.put_of, Inner.put_all}

record Holding (l : OpList) (os : List CodeOp) : Type 0 where
  count : l.count ≡ length os
  ops : take l.count l.ops ≡ os

put_room : (l : OpList) (o : CodeOp) → l.count < most_ops
    → put_of l o ≡ record { count = l.count + 1; ops = set l.ops l.count o }
unfolding put_of
put_room l o h = rw (lt-ltb l.count most_ops h)

put_full : (l : OpList) (o : CodeOp) → most_ops ≤ l.count → put_of l o ≡ record { count = most_ops + 1; ops = l.ops }
unfolding put_of
put_full l o h = rw (le-ltb l.count most_ops h)

put_few : (l : OpList) (held os : List CodeOp) → length l.ops ≡ most_ops → Holding l held
    → length held + length os ≤ most_ops → Holding (put_all l os) (held ++ os)
put_few l held [] long h few = rw (append-nil held) h
put_few l held (o ∷ os) long h few =
    rw (put_room l o (omega (arith, h.count)), ← append_assoc held (o ∷ []) os)
    (put_few (record { count = l.count + 1; ops = set l.ops l.count o })
    (held ++ (o ∷ [])) os (length-set l.ops l.count o ∙ long) next (omega (arith, more)))
  where
    more : length (held ++ (o ∷ [])) ≡ length held + 1
    more = length-append held (o ∷ [])

    next : Holding (record { count = l.count + 1; ops = set l.ops l.count o }) (held ++ (o ∷ []))
    next = record {
      count = omega (arith, more, h.count);
      ops = rw (add-one l.count) (take-suc-set l.ops l.count o (omega (arith, h.count, long))
          ∙ ap (λ (t : List CodeOp). t ++ (o ∷ [])) h.ops);
    }

put_many : (l : OpList) (os : List CodeOp) → l.count ≤ most_ops + 1 → most_ops < l.count + length os
    → (put_all l os).count ≡ most_ops + 1
put_many l [] h over = omega arith
put_many l (o ∷ os) h over = elim (reach (suc l.count) most_ops) [
  | reached few ↦ ap (λ (m : OpList). (put_all m os).count) (put_room l o few)
      ∙ put_many (record { count = l.count + 1; ops = set l.ops l.count o }) os (omega arith) (omega arith)
  | short full ↦ ap (λ (m : OpList). (put_all m os).count) (put_full l o (omega arith))
      ∙ put_many (record { count = most_ops + 1; ops = l.ops }) os (omega arith) (omega arith)
]

-- what the list by value comes to is what the slice does
module _ (b : CodeLent) (entries incoming : List ℕ) (os : List CodeOp) (r : Raw) where
  abbrev lent : Lent
  lent = lent_of b entries incoming

  abbrev whole : Bool
  whole = whole_lent b entries incoming

  and-true : (t : Bool) → (t && true) ≡ t
  and-true true = refl
  and-true false = refl

  and-false : (t : Bool) → (t && false) ≡ false
  and-false true = refl
  and-false false = refl

  few_run : length os ≤ most_ops → run (write lent (ops_in (put_all no_ops os)))
      (whole_list b entries incoming (put_all no_ops os)) r ≡ run (write lent (map op_of os)) whole r
  few_run h =
      let g = put_few no_ops [] os (length-replicate most_ops no_op) (record { count = refl; ops = refl }) (omega arith) in
      ap₂ (λ (ops : List CodeOp) (n : ℕ). run (write lent (map op_of ops)) (whole && leb n most_ops) r)
      g.ops g.count
      ∙ ap (λ (t : Bool). run (write lent (map op_of os)) t r) (rw (le-leb (length os) most_ops h) (and-true whole))

  many_run : most_ops < length os
      → run (write lent (ops_in (put_all no_ops os))) (whole_list b entries incoming (put_all no_ops os)) r
      ≡ run (write lent (map op_of os)) whole r
  many_run h =
      ap (λ (n : ℕ). run (write lent (ops_in (put_all no_ops os))) (whole && leb n most_ops) r)
      (put_many no_ops os (omega arith) (omega arith))
      ∙ ap (λ (t : Bool). run (write lent (ops_in (put_all no_ops os))) t r) (and-false whole)
      ∙ go (formed r) refl
    where
      bad : malformed (write lent (map op_of os)) ≡ true
      bad = unfold malformed ops_formed in
          rw (length-map os op_of, lt-leb (length os) most_ops h, and-false (leb 1 (length os)))

      asked : (t : Bool) → formed r ≡ true → outcome (refused 11 0) r ≡ run (write lent (map op_of os)) t r
      asked true ok = bad_call (write lent (map op_of os)) r ok bad
      asked false ok = not_whole (write lent (map op_of os)) false r ok refl

      go : (t : Bool) → formed r ≡ t
          → run (write lent (ops_in (put_all no_ops os))) false r ≡ run (write lent (map op_of os)) whole r
      go true ok = sym (not_whole (write lent (ops_in (put_all no_ops os))) false r ok refl) ∙ asked whole ok
      go false e = sym (ill_formed (write lent (ops_in (put_all no_ops os))) false r e)
          ∙ ill_formed (write lent (map op_of os)) whole r e

  pub gathered_run : run (write lent (ops_in (put_all no_ops os))) (whole_list b entries incoming (put_all no_ops os)) r
      ≡ run (write lent (map op_of os)) whole r
  gathered_run = elim (reach (length os) most_ops) [ reached h ↦ few_run h | short h ↦ many_run h ]
