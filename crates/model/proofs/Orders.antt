-- The refusals of every call are the table's rows in document 01's order, each with what it carries, whatever the state
-- and the request.
use Rattle.words.proofs.Prelude.{arith, ◌≡◌, refl, sym, ap, ◌∙◌, ℕ, Bool, true, false, if◌then◌else◌, none, some, List}
use Rattle.words.proofs.Prelude.{[], ◌∷◌, ◌++◌, map}
use mathlib.Core.List.{map-append}
use Rattle.entry.specs.Guards.{Guard, refuses, first}
use Rattle.entry.specs.declared.Compaction.TheVariants.{Trim, Snapshot}
use Rattle.model.specs.Numbers.{Numbers}
use Rattle.model.specs.Log.{Log, numbers_of}
use Rattle.model.specs.Append.{append_guards, append_stop_guards, set_stop_guards}
use Rattle.model.specs.Backend.{Op, append_entries, append_on_prefix, set_decided, set_compacted, trim as op_trim}
use Rattle.model.specs.Backend.{set_promise as op_promise, set_round, set_sign, set_snapshot, Lent, Midst, midst, step}
use Rattle.model.specs.Backend.{step_guards, last_guards, op_guards, write_guards}
use Rattle.model.specs.Compact.{compact_guards, create_guards}
use Rattle.model.specs.Diff.{diff_guards}
use Rattle.model.specs.Sync.{part_number_guards, part_guards, round_guards}
use Rattle.model.specs.Calls.{Query, read, read_decided, get_suffix, create, diff, lookup, lookup_many, get_entries}
use Rattle.model.specs.Calls.{Call, query, append, append_now, flush, flush_entries, append_stop, set_stop}
use Rattle.model.specs.Calls.{set_promise, decide, compact, sync, reload, write, decide_guards, sync_guards}
use Rattle.model.specs.Calls.{query_guards, further, guards}
use Rattle.model.specs.Orders.{query_order, op_order, ops_order, order_of, carries_of}

-- the rows that a call's refusals are, and those that the table has for it
abbrev rows : List Guard → List (ℕ × ℕ)
rows gs = map (λ (g : Guard). (g.number, g.carried)) gs

abbrev due : Call → Numbers → List ℕ → List (ℕ × ℕ)
due c n is = map (λ (i : ℕ). (i, carries_of c n i)) is

op_rows : (n : Numbers) (l : Lent) (ops : List Op) (o : Op) (m : Midst)
    → rows (step_guards n l o m) ≡ due (write l ops) n (op_order o)
unfolding step_guards carries_of
op_rows n l ops append_entries m = refl
op_rows n l ops (append_on_prefix i) m = refl
op_rows n l ops (set_decided i) m = refl
op_rows n l ops (set_compacted i) m = refl
op_rows n l ops (op_trim i) m = refl
op_rows n l ops (op_promise b) m = refl
op_rows n l ops (set_round b) m = refl
op_rows n l ops (set_sign t) m = refl
op_rows n l ops (set_snapshot t) m = refl

-- all is the whole list that the call is given, ops what is left of it
ops_rows : (n : Numbers) (l : Lent) (all ops : List Op) (m : Midst)
    → rows (op_guards n l ops m) ≡ due (write l all) n (ops_order ops)
unfolding op_guards
ops_rows n l all [] m = unfold last_guards carries_of in refl
ops_rows n l all (o ∷ ops) m =
    map-append (λ (g : Guard). (g.number, g.carried)) (step_guards n l o m) (op_guards n l ops (step l o m))
    ∙ ap (λ (a : List (ℕ × ℕ)). a ++ rows (op_guards n l ops (step l o m))) (op_rows n l all o m)
    ∙ ap (λ (b : List (ℕ × ℕ)). due (write l all) n (op_order o) ++ b) (ops_rows n l all ops (step l o m))
    ∙ sym (map-append (λ (i : ℕ). (i, carries_of (write l all) n i)) (op_order o) (ops_order ops))

query_rows : (q : Query) (s : Log) → rows (query_guards q s) ≡ due (query q) (numbers_of s) (query_order q)
unfolding query_guards carries_of
query_rows (read a b) s = refl
query_rows (read_decided i) s = refl
query_rows (get_suffix i) s = refl
query_rows (create i) s = unfold create_guards in refl
query_rows (diff i) s = unfold diff_guards in refl
query_rows (lookup k) s = refl
query_rows (lookup_many ks) s = refl
query_rows (get_entries i j) s = refl

call_rows : (c : Call) (s : Log) → rows (further c s) ≡ due c (numbers_of s) (order_of c)
unfolding further carries_of
call_rows (query q) s = query_rows q s
call_rows (append es) s = unfold append_guards in refl
call_rows (append_now es) s = unfold append_guards in refl
call_rows flush s = refl
call_rows flush_entries s = refl
call_rows (append_stop g) s = unfold append_stop_guards in refl
call_rows (set_stop g) s = unfold set_stop_guards in refl
call_rows (set_promise b) s = refl
call_rows (decide i) s = unfold decide_guards in refl
call_rows (compact Trim upto) s = unfold compact_guards in refl
call_rows (compact Snapshot upto) s = unfold compact_guards in refl
call_rows (sync b d none) s = unfold sync_guards round_guards in refl
call_rows (sync b d (some p)) s = unfold sync_guards part_number_guards part_guards in refl
call_rows reload s = refl
call_rows (write l ops) s = unfold write_guards in ops_rows (numbers_of s) l ops ops (midst s)

pub in_table : (c : Call) (s : Log) → rows (guards c s) ≡ due c (numbers_of s) (12 ∷ 11 ∷ order_of c)
unfolding guards carries_of
in_table c s = ap (λ (l : List (ℕ × ℕ)). (12, 0) ∷ (11, 0) ∷ l) (call_rows c s)

-- so what a refusal carries is told by its number
carried_by : (f : ℕ → ℕ) (gs : List Guard) (is : List ℕ) → rows gs ≡ map (λ (i : ℕ). (i, f i)) is → (n k : ℕ)
    → first gs ≡ refuses n k → k ≡ f n
unfolding first
carried_by f [] is e n k q = let z : ◌≡◌ {A = ℕ} 0 1 = cc in absurd (omega arith)
carried_by f (g ∷ gs) [] e n k q = let z : ◌≡◌ {A = ℕ} 0 1 = cc in absurd (omega arith)
carried_by f (g ∷ gs) (i ∷ is) e n k q = go g.applies q (λ p. carried_by f gs is (cc) n k p)
  where
    go : (t : Bool) → (if t then refuses g.number g.carried else first gs) ≡ refuses n k
        → (first gs ≡ refuses n k → k ≡ f n) → k ≡ f n
    go true p ih =
        let row : ◌≡◌ {A = ℕ × ℕ} (g.number, g.carried) (i, f i) = cc in
        let number : g.number ≡ i = ap (λ (x : ℕ × ℕ). x.0) row in
        let carried : g.carried ≡ f i = ap (λ (x : ℕ × ℕ). x.1) row in
        cc
    go false p ih = ih p

pub carries : (c : Call) (s : Log) (n k : ℕ) → first (guards c s) ≡ refuses n k → k ≡ carries_of c (numbers_of s) n
carries c s n k e = carried_by (carries_of c (numbers_of s)) (guards c s) (12 ∷ 11 ∷ order_of c) (in_table c s) n k e
