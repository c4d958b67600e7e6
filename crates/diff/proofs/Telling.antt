-- What a diff tells of a lent state: refusals 12, 11, 16 and 8, or what is given and the output slice after it.
use Rattle.words.proofs.Prelude.{◌≡◌, refl, sym, ap, ap₂, ◌∙◌, ℕ, ◌-◌, ◌*◌, ◌≤◌, ◌<◌, min, Bool, true, false, ◌&&◌}
use Rattle.words.proofs.Prelude.{◌||◌, ltb, Option, none, some, List, [], drop}
use Rattle.std.specs.Prelude.{Result, Ok, Err}
use Rattle.words.specs.Coded.{entries_at}
use Rattle.entry.specs.Limits.{width, snapshot_words}
use Rattle.entry.specs.Change.{Change, entries_formed, entries_of, stored}
use Rattle.entry.specs.Guards.{Verdict, passes, refuses, first, Answer, refused, replied, refused_by, settle}
use Rattle.entry.specs.Refusals.{number_of, carried_of}
use Rattle.entry.specs.declared.LogIndex.{LogIndex}
use Rattle.entry.specs.declared.Refusal.{Refusal}
use Rattle.entry.specs.declared.Refusal.TheVariants.{Malformed, IllFormed, Hole}
use Rattle.entry.proofs.{GuardLaws.first_refuses, GuardLaws.first_goes_on, SliceLaws.stored_entries}
use Rattle.snapshot.specs.{Folds.fold, Calls.outcome as snapshot_outcome, Calls.folded, Calls.fold_guards}
use Rattle.snapshot.specs.Inner.{fold_written, folded_out}
use Rattle.snapshot.proofs.Calling.{wrote_nothing, wrote_keys}
use Rattle.model.specs.{Numbers.log_decided, Log.Log, Log.or_empty, Log.folded_to, Log.hole, Diff.Given, Diff.plain}
use Rattle.model.specs.{Diff.complete, Diff.delta, Diff.snapshot_in, Diff.diff_of, Diff.diff_folds, Diff.diff_guards}
use Rattle.model.specs.{Calls.Call, Calls.query, Calls.diff, Calls.Diff as Reply, Calls.malformed, Calls.further}
use Rattle.model.specs.{Calls.query_guards, Calls.effect, Calls.reply_of, Calls.query_reply}
use Rattle.state_cache.specs.{State.Raw, State.numbers_in, State.formed, State.log_of, Run.Outcome, Run.run}
use Rattle.state_cache.specs.Inner.{hole_in}
use Rattle.state_cache.proofs.Stands.{stands_of, ready_of}
use Rattle.state_cache.proofs.Runs.{ill_formed, not_whole, call_refused, call_stands}
use Rattle.compaction.proofs.Folding.{numbers, decided_high, fold_is}
use Rattle.diff.specs.Replies.{reply, diff_said, out_after}
use Rattle.diff.specs.{declared.Diff.Diff, declared.Diff.TheVariants.Nothing, declared.Diff.TheVariants.Complete}
use Rattle.diff.specs.declared.Diff.TheVariants.{Delta}
use Rattle.diff.proofs.Giving.{diff_plain, diff_complete, complete_formed, diff_delta, delta_formed, diff_onto}
use Rattle.diff.proofs.Giving.{diff_rests, diff_whole, diff_past}

-- a fold's answer as a diff's
abbrev keys_told : Bool → LogIndex → ℕ → Diff
keys_told true i n = Delta n i
keys_told false i n = Complete n i

abbrev pub fold_told : Bool → LogIndex → Result ℕ Refusal → Result Diff Refusal
fold_told kind i (Ok n) = Ok (keys_told kind i n)
fold_told kind i (Err x) = Err x

-- a snapshot of either kind, with the words of it and its index
abbrev kind_of : Bool → List Change → Given
kind_of true es = delta es
kind_of false es = complete es

kind_holds : (kind : Bool) (es : List Change) → snapshot_in (kind_of kind es) ≡ some es
kind_holds true es = refl
kind_holds false es = refl

kind_says : (kind : Bool) (k last : ℕ) (exit : List ℕ)
    → diff_said exit (Ok (keys_told kind (record { 0 = last }) k))
    ≡ replied (reply (kind_of kind (entries_of k exit)) last)
kind_says true k last exit = refl
kind_says false k last exit = refl

module _ (r : Raw) (i : ℕ) (out : List ℕ) where
  abbrev c : Call
  c = query (diff i)

  abbrev s : Log
  s = log_of r

  -- what is claimed of an answer and the output slice beside it
  abbrev pub Told : Result Diff Refusal → List ℕ → Bool → Type 0
  Told a exit whole = (diff_said exit a ≡ (run c whole r).answer) × (exit ≡ out_after (run c whole r).answer out)

  told : (a : Result Diff Refusal) (exit : List ℕ) (whole : Bool) (x : Answer Reply)
      → x ≡ (run c whole r).answer → diff_said exit a ≡ x
      → exit ≡ out_after x out → Told a exit whole
  told a exit whole x e p q = (p ∙ e, q ∙ ap (λ (y : Answer Reply). out_after y out) e)

  abbrev answer_of : Outcome Reply → Answer Reply
  answer_of o = o.answer

  pub diff_ill_formed : (whole : Bool) → formed r ≡ false → Told (Err IllFormed) out whole
  diff_ill_formed whole e =
      told (Err IllFormed) out whole (refused 12 0) (ap answer_of (ill_formed c whole r e)) refl refl

  module _ (ok : formed r ≡ true) where
    pub diff_malformed : (whole : Bool) → whole ≡ false → Told (Err Malformed) out whole
    diff_malformed whole e = told (Err Malformed) out whole (refused 11 0)
        (ap answer_of (not_whole c whole r ok e)) refl refl

    module _ (last : ℕ) (l : last ≡ log_decided (numbers_in r.index)) where
      answers : (v : Verdict) → v ≡ first (further c s) → settle v (reply (diff_of i s) last) ≡ (run c true r).answer
      unfolding malformed effect reply_of query_reply
      answers passes e =
          ap answer_of
          (call_stands c r ok refl e (reply (diff_of i s) last) r
          (ap (reply (diff_of i s)) (l ∙ ap log_decided (sym (numbers r ok)))) (stands_of r ok))
      answers (refuses n k) e = ap answer_of (call_refused c r ok refl n k e)

      -- refusal 8 looks at what is given, where 16 does not apply
      verdict : (diff_folds i s && hole s.run) ≡ false → (es : List Change) → or_empty (snapshot_in (diff_of i s)) ≡ es
          → first (fold_guards es) ≡ first (further c s)
      unfolding further query_guards diff_guards
      verdict whole es e =
          ap (λ (t : List Change). first (fold_guards t)) (sym e)
          ∙ sym (first_goes_on 16 0 (diff_folds i s && hole s.run) _ whole)

      -- a log with a hole holds no snapshot, so that a complete diff of it folds
      pub diff_holed : i ≤ r.index.compacted.0
          → (r.index.snapshot_held || ltb r.index.compacted.0 last) ≡ true → hole_in r.index ≡ true
          → Told (Err Hole) out true
      unfolding further query_guards diff_guards
      diff_holed h g e =
          told (Err Hole) out true (refused 16 0)
          (answers (refuses 16 0)
          (sym (first_refuses 16 0 (diff_folds i s && hole s.run) _ (diff_onto r ok i last l h g e)))) refl refl

      pub diff_nothing : i ≤ r.index.compacted.0
          → (r.index.snapshot_held || ltb r.index.compacted.0 last) ≡ false
          → Told (Ok (Nothing (record { 0 = last }))) out true
      unfolding first
      diff_nothing h g =
          let e = diff_plain r ok i last l h g in
          told (Ok (Nothing (record { 0 = last }))) out true (replied (reply plain last))
          (ap (λ (x : Given). replied (reply x last)) (sym e)
          ∙ answers passes (verdict (diff_rests r ok i last l g) []
          (ap (λ (x : Given). or_empty (snapshot_in x)) e))) refl refl

      -- a snapshot written out, of either kind
      module _ (kind : Bool) (es : List Change) (is : diff_of i s ≡ kind_of kind es) (fine : entries_formed es ≡ true)
          (whole : (diff_folds i s && hole s.run) ≡ false) (exit : List ℕ) where
        given_is : or_empty (snapshot_in (diff_of i s)) ≡ es
        given_is = ap (λ (g : Given). or_empty (snapshot_in g)) is ∙ ap or_empty (kind_holds kind es)

        wrote : (a : Result ℕ Refusal) → snapshot_outcome (folded a) exit ≡ fold_written es out
            → Told (fold_told kind (record { 0 = last }) a) exit true
        wrote (Err x) f =
            let q = wrote_nothing (first (fold_guards es)) es out exit (Err x) f x refl in
            told (Err x) exit true (refused_by x)
            (answers (refuses (number_of x) (carried_of x)) (sym q.0 ∙ verdict whole es given_is)) refl q.1
        wrote (Ok k) f =
            let q = wrote_keys (first (fold_guards es)) es out exit (Ok k) f k refl in
            told (Ok (keys_told kind (record { 0 = last }) k)) exit true (replied (reply (kind_of kind es) last))
            (ap (λ (g : Given). replied (reply g last)) (sym is)
            ∙ answers passes (sym q.0 ∙ verdict whole es given_is))
            (kind_says kind k last exit
            ∙ ap (λ (t : List Change). replied (reply (kind_of kind t) last))
            (ap₂ entries_of q.1 q.2 ∙ stored_entries snapshot_words es fine))
            (q.2 ∙ ap (λ (o : Option (List Change)). elim o [ none ↦ out | some t ↦ stored snapshot_words t ])
            (sym (kind_holds kind es)))

      -- of all that is decided
      pub complete_wrote : i ≤ r.index.compacted.0
          → (r.index.snapshot_held || ltb r.index.compacted.0 last) ≡ true → hole_in r.index ≡ false
          → (a : Result ℕ Refusal) (exit : List ℕ)
          → snapshot_outcome (folded a) exit
          ≡ folded_out r.index.keys r.snapshot (last - r.index.compacted.0) r.log out
          → Told (fold_told false (record { 0 = last }) a) exit true
      complete_wrote h g whole a exit f =
          wrote false (folded_to last s.run) (diff_complete r ok i last l h g) (complete_formed r ok i last l)
          (diff_whole r ok i last l whole) exit a
          (f ∙ ap (λ (es : List Change). fold_written es out)
          (fold_is r ok last (decided_high (numbers_in r.index) (ready_of r ok).numbers last l)))

      -- of what is decided from an index on
      pub delta_wrote : (h : r.index.compacted.0 < i) (start : ℕ) (e : start ≡ min i last)
          (a : Result ℕ Refusal) (exit : List ℕ)
          → snapshot_outcome (folded a) exit
          ≡ folded_out 0 [] (last - start) (drop ((start - r.index.compacted.0) * width) r.log) out
          → Told (fold_told true (record { 0 = last }) a) exit true
      unfolding fold entries_at
      delta_wrote h start e a exit f =
          wrote true _ (diff_delta r ok i last l h start e) (delta_formed r ok i last l h start e)
          (diff_past r ok i last l h) exit a f
