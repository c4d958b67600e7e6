-- Demand 3's last sentence: what a log without a hole holds is the fold of its history.
use Rattle.words.proofs.Prelude.{arith, ◌≡◌, refl, sym, ◌∙◌, ℕ, ◌+◌, ◌-◌, ◌≤◌, ◌<◌, Bool, true, false, true≢false}
use Rattle.words.proofs.Prelude.{◌&&◌, ltb, ltb-true, ltb-false, if◌then◌else◌, Option, none, some, List, [], ◌∷◌, ◌++◌}
use Rattle.words.proofs.Prelude.{length-drop, length-take, length-append, length, take, drop}
use lib.Seq.{take-append-le, drop-append-le, take_at, drop_at, take-take, drop-drop, take-add}
use Rattle.words.proofs.{Tests.or_left, Tests.or_right, Tests.either, Laws.drop-take}
use Rattle.entry.specs.{Limits.largest_batch, Change.Change, Guards.Verdict, Guards.passes, Guards.refuses, Guards.first}
use Rattle.entry.specs.{declared.StopSign.StopSign, declared.Compaction.Compaction}
use Rattle.entry.specs.declared.Compaction.TheVariants.{Trim, Snapshot}
use Rattle.entry.proofs.GuardLaws.{Passed, passed, Clear}
use Rattle.snapshot.specs.Folds.{fold, merge, fold_onto}
use Rattle.snapshot.proofs.Folds.{fold-append, merge_fold}
use Rattle.model.specs.Numbers.{Numbers, end_of, log_decided}
use Rattle.model.specs.Log.{Run, Log, numbers_of, or_empty, folded_to, hole, well_formed, waiting, with_tail}
use Rattle.model.specs.Log.{fresh_log}
use Rattle.model.specs.Append.{joined, batch_with, fills, appended, appended_now, flushed, stop_appended, stop_set}
use Rattle.model.specs.Compact.{target, passes_start, folded_upto, compact_guards, held_then, compacted_to}
use Rattle.model.specs.Diff.{Given, plain, complete, delta}
use Rattle.model.specs.Sync.{delta_onto, run_then, part_number_guards, part_guards, part_synced}
use Rattle.model.specs.Calls.{Call, query, append, append_now, flush, flush_entries, append_stop, set_stop}
use Rattle.model.specs.Calls.{set_promise, decide, compact, sync, reload, write, sync_guards, further}
use Rattle.model.specs.Calls.{guards, synced, effect, after, state_after}
use Rattle.model.specs.History.{synced_history, grown, Stands, Truthful, Event, Told, history_after, next, told}
use Rattle.model.specs.History.{AllTruthful, fresh}
use Rattle.model.proofs.Forms.{Ranges, ranges, formed_of}
use Rattle.model.proofs.Keeps.{part, unstopped, target_range, cleared, call_keeps, fresh_formed}

-- what a held run and a history have in common: the retained entries always, the snapshot where there is no hole
pub record Agrees (r : Run) (h : List Change) : Type 0 where
  pub ends : length h ≡ r.compacted + length r.retained
  pub kept : r.retained ≡ drop r.compacted h
  pub snapshot : hole r ≡ false → or_empty r.held ≡ fold (take r.compacted h)

-- a fold goes on from a fold
fold_on : (r q : List Change) → fold (r ++ q) ≡ merge (fold r) q
fold_on r q = fold-append r q ∙ merge_fold (fold r) q

module _ (r : Run) (h : List Change) (a : Agrees r h) where
  -- the held snapshot with the retained entries below i is the fold of the first i of the history
  pub folded_is : hole r ≡ false → (i : ℕ) → r.compacted ≤ i → folded_to i r ≡ fold (take i h)
  unfolding folded_to
  folded_is whole i le =
      let e : r.compacted + (i - r.compacted) ≡ i = omega arith in
      rw (a.snapshot whole, a.kept, ← fold_on (take r.compacted h) (take (i - r.compacted) (drop r.compacted h)), ← take-add r.compacted (i - r.compacted) h)
      (rw e)

  -- entries joined at the end
  joined_agrees : (es : List Change)
      → Agrees (record { compacted = r.compacted; retained = r.retained ++ es; held = r.held }) (h ++ es)
  joined_agrees es =
      let le : r.compacted ≤ length h = omega (arith, a.ends) in
      record {
        ends = simp length-append (omega (arith, a.ends));
        kept = rw (drop-append-le r.compacted h es le, a.kept);
        snapshot = λ whole. rw (take-append-le r.compacted h es le) (a.snapshot whole);
      }

  -- the start moved up, with what is then held
  moved_agrees : (i : ℕ) (held : Option (List Change)) → r.compacted < i → i ≤ r.compacted + length r.retained
      → (hole (record { compacted = i; retained = []; held = held }) ≡ false → or_empty held ≡ fold (take i h))
      → Agrees (record { compacted = i; retained = drop (i - r.compacted) r.retained; held = held }) h
  moved_agrees i held lt hi below =
      let e : r.compacted + (i - r.compacted) ≡ i = omega arith in
      record {
        ends = simp length-drop (omega (arith, a.ends));
        kept = rw (a.kept, drop-drop (i - r.compacted) r.compacted h, e);
        snapshot = below;
      }

  -- a plain sync
  cut_agrees : (i : ℕ) (es : List Change) → r.compacted ≤ i → i ≤ r.compacted + length r.retained
      → Agrees
      (record { compacted = r.compacted; retained = take (i - r.compacted) r.retained ++ es; held = r.held })
      (take i h ++ es)
  cut_agrees i es le hi =
      let c : r.compacted ≤ length (take i h) = simp length-take (omega (arith, a.ends)) in
      record {
        ends = simp (length-append, length-take) (omega (arith, a.ends));
        kept = rw (drop-append-le r.compacted (take i h) es c, drop-take r.compacted i h, a.kept);
        snapshot =
            λ whole.
            rw (take-append-le r.compacted (take i h) es c, take-take r.compacted i h le) (a.snapshot whole);
      }

-- a snapshot that stands for a whole list
replaced_agrees : (x es c : List Change) (i : ℕ) → length x ≡ i → c ≡ fold x
    → Agrees (record { compacted = i; retained = es; held = some c }) (x ++ es)
replaced_agrees x es c i n e =
    record {
      ends = simp length-append (omega arith);
      kept = rw (drop_at x es i n);
      snapshot = λ whole. rw (take_at x es i n) e;
    }

-- a sync with a log part, by its snapshot
part_agrees : (d i : ℕ) (g : Given) (es : List Change) (z : Option StopSign) (x : List Change)
    (s : Log) (h : List Change)
    → Ranges (numbers_of s) → Clear (part_guards d (part i g es z) s) → Stands (part i g es z) x s → Agrees s.run h
    → Agrees (run_then (part i g es z) s) (synced_history (part i g es z) x s h)
unfolding part_number_guards part_guards Stands run_then synced_history end_of
part_agrees d i plain es z x s h w clr t a =
    cut_agrees s.run h a i es
    (ltb-false i s.run.compacted (or_left (ltb i s.run.compacted) (ltb (end_of (numbers_of s)) i) (clr 7)))
    (ltb-false (end_of (numbers_of s)) i (or_right (ltb i s.run.compacted) (ltb (end_of (numbers_of s)) i) (clr 7)))
part_agrees d i (complete c) es z x s h w clr t a = replaced_agrees x es c i t.0 t.1
part_agrees d i (delta c) es z x s h w clr t a =
    let n : Numbers = numbers_of s in
    replaced_agrees (take (log_decided n) h ++ x) es (delta_onto c s) i
    (simp (length-append, length-take)
    (omega (arith, a.ends, t.0, w.high, unstopped n (clr 4), ltb-false i s.marks.decided (clr 5))))
    (unfold delta_onto in rw (folded_is s.run h a (clr 16) (log_decided n) w.low, fold_on, t.1, merge_fold))

-- what is held once a compaction passes compacted: after a trim there is a hole
held_agrees : (what : Compaction) (upto : Option ℕ) (s : Log) (h : List Change) → Agrees s.run h
    → Clear (compact_guards what upto s) → passes_start upto s ≡ true
    → hole (record { compacted = target upto (numbers_of s); retained = []; held = held_then what upto s }) ≡ false
    → or_empty (held_then what upto s) ≡ fold (take (target upto (numbers_of s)) h)
unfolding passes_start compact_guards folded_upto
held_agrees Trim upto s h a clr e whole =
    let to : ℕ = target upto (numbers_of s) in
    absurd (omega (arith, ltb-true s.run.compacted to e, ltb-false 0 to (sole (ltb 0 to) whole)))
  where
    sole : (t : Bool) → (t && true) ≡ false → t ≡ false
    sole true e = e
    sole false e = refl
held_agrees Snapshot upto s h a clr e whole =
    let to : ℕ = target upto (numbers_of s) in
    folded_is s.run h a (rw e at (clr 16)) to (omega (arith, ltb-true s.run.compacted to e))

compact_agrees : (what : Compaction) (upto : Option ℕ) (s : Log) (h : List Change) → Ranges (numbers_of s)
    → Clear (compact_guards what upto s) → Agrees s.run h → Agrees (compacted_to what upto s).run h
unfolding compacted_to passes_start end_of
compact_agrees what upto s h w clr a =
    let to : ℕ = target upto (numbers_of s) in
    either (λ (t : Log). Agrees t.run h) (ltb s.run.compacted to) _ _
    (λ e. moved_agrees s.run h a to (held_then what upto s) (ltb-true s.run.compacted to e)
    (omega (arith, target_range upto (numbers_of s), w.high)) (held_agrees what upto s h a clr e))
    (λ e. a)

append_agrees : (es : List Change) (s : Log) (h : List Change) → Agrees s.run h
    → Agrees (appended es s).run (if fills es s then h ++ batch_with es s else h)
unfolding appended
append_agrees es s h a = go (fills es s)
  where
    go : (t : Bool) → Agrees (if t then joined (batch_with es s) [] s else with_tail (waiting (batch_with es s) s.tail)
        s).run (if t then h ++ batch_with es s else h)
    go true = joined_agrees s.run h a (batch_with es s)
    go false = a

-- a call that stands
stands : (c : Call) (x : List Change) (s : Log) (h : List Change) → well_formed s ≡ true → Passed (guards c s)
    → Truthful c x s → Agrees s.run h
    → Agrees (effect c s).run (grown c x s h)
unfolding effect grown
stands (query q) x s h w p t a = a
stands (append es) x s h w p t a = append_agrees es s h a
stands (append_now es) x s h w p t a = unfold appended_now in joined_agrees s.run h a es
stands flush x s h w p t a = unfold flushed in joined_agrees s.run h a s.tail.batched
stands flush_entries x s h w p t a = unfold flushed in joined_agrees s.run h a s.tail.batched
stands (append_stop g) x s h w p t a = unfold stop_appended flushed in joined_agrees s.run h a s.tail.batched
stands (set_stop g) x s h w p t a = unfold stop_set in a
stands (set_promise b) x s h w p t a = a
stands (decide i) x s h w p t a = a
stands (compact what upto) x s h w p t a =
    compact_agrees what upto s h (ranges (numbers_of s) (formed_of s w).numbers)
    (unfold further in cleared (compact what upto) s p) a
stands (sync b d none) x s h w p t a = unfold synced in a
stands (sync b d (some q)) x s h w p t a =
    unfold synced part_synced in
    part_agrees d q.idx q.snapshot q.suffix q.stop x s h (ranges (numbers_of s) (formed_of s w).numbers)
    (unfold further sync_guards in cleared (sync b d (some q)) s p) t.1 a
stands reload x s h w p t a = absurd (true≢false (sym t.0))
stands (write l ops) x s h w p t a = absurd (true≢false (sym t.0))

-- one call, refused or not
step_agrees : (e : Event) (t : Told) → well_formed t.log ≡ true
    → (first (guards e.call t.log) ≡ passes → Truthful e.call e.behind t.log)
    → Agrees t.log.run t.history → Agrees (next e t).log.run (next e t).history
unfolding next state_after
step_agrees e t w honest a = go (first (guards e.call t.log)) refl
  where
    go : (v : Verdict) → first (guards e.call t.log) ≡ v
        → Agrees (after v (effect e.call t.log) t.log).run
        (history_after v (grown e.call e.behind t.log t.history) t.history)
    go passes q = stands e.call e.behind t.log
        t.history w (passed (guards e.call t.log) q) (honest q) a
    go (refuses n k) q = a

-- a run of calls: what is held agrees with the history, and the state stays well formed
pub record Faithful (t : Told) : Type 0 where
  pub formed : well_formed t.log ≡ true
  pub agrees : Agrees t.log.run t.history

told_faithful : (es : List Event) (t : Told) → AllTruthful es t → Faithful t → Faithful (told es t)
unfolding told AllTruthful
told_faithful [] t honest f = f
told_faithful (e ∷ es) t honest f =
    told_faithful es (next e t) honest.1
    (record {
      formed = (unfold next in call_keeps e.call t.log f.formed);
      agrees = step_agrees e t f.formed honest.0 f.agrees;
    })

pub fresh_faithful : (n : ℕ) → n ≤ largest_batch → Faithful (fresh n)
fresh_faithful n h = record { formed = (unfold fresh in fresh_formed n h); agrees = empty n }
  where
    empty : (n : ℕ) → Agrees (fresh n).log.run (fresh n).history
    empty n = unfold fresh fresh_log fold fold_onto in record { ends = refl; kept = refl; snapshot = λ whole. refl }

-- Demand 3, last sentence: for every i from compacted to end, the held snapshot (empty if none) merged with the
-- retained entries below i is the fold of the history's first i entries, both without room limit; in every state
-- without a hole. And in every state the retained entries are the history from compacted on.
module _ (n : ℕ) (sized : n ≤ largest_batch) (es : List Event) (honest : AllTruthful es (fresh n)) where
  pub faithful : Faithful (told es (fresh n))
  faithful = told_faithful es (fresh n) honest (fresh_faithful n sized)

  pub history_kept : hole (told es (fresh n)).log.run ≡ false → (i : ℕ)
      → (told es (fresh n)).log.run.compacted ≤ i
      → i ≤ end_of (numbers_of (told es (fresh n)).log)
      → folded_to i (told es (fresh n)).log.run ≡ fold (take i (told es (fresh n)).history)
  history_kept whole i low high =
      folded_is (told es (fresh n)).log.run (told es (fresh n)).history faithful.agrees whole i low

  pub retained_kept : (told es (fresh n)).log.run.retained
      ≡ drop (told es (fresh n)).log.run.compacted (told es (fresh n)).history
  retained_kept = faithful.agrees.kept
