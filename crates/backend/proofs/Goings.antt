-- What each operation comes to, from the record and the words that the code leaves.
use Rattle.words.proofs.Prelude.{arith, ◌≡◌, refl, sym, ap, ap₂, ◌∙◌, ℕ, ◌+◌, ◌-◌, ◌*◌, ◌/◌, ◌≤◌, ◌<◌, min, max, Bool}
use Rattle.words.proofs.Prelude.{true, false, true≢false, ◌&&◌, ◌||◌, not, eqb, ltb, lt-ltb, le-ltb, ltb-true}
use Rattle.words.proofs.Prelude.{ltb-false, if◌then◌else◌, Option, none, some, List, [], ◌++◌, length, take, drop}
use Rattle.words.proofs.Prelude.{replicate, take_all}
use Rattle.words.specs.{All.all_of, Words.laid, Words.spliced, Coded.words_of, Coded.entries_at}
use Rattle.words.proofs.{Tests.and_right, Tests.or_right, CodedLaws.entries_length}
use Rattle.entry.specs.{Limits.width, Limits.entry_room, Limits.snapshot_words, Change.Change, Change.change_code}
use Rattle.entry.specs.{Change.entries_of, Change.entries_in, Change.slice_formed, Sign.sign_formed, Sign.sign_if}
use Rattle.entry.specs.{Sign.sign_blank, Sign.blank, Sign.no_sign, Guards.Guard, Guards.passes}
use Rattle.entry.specs.{Guards.refuses, Guards.first, declared.Ballot.Ballot, declared.LogIndex.LogIndex}
use Rattle.entry.specs.{declared.StopSign.StopSign, declared.Refusal.Refusal}
use Rattle.std.specs.Prelude.{Result, Ok, Err}
use Rattle.entry.proofs.GuardLaws.{clear_all, passing, stopping, found, first_goes_on}
use Rattle.entry.proofs.SliceLaws.{laid_of, stored_laid}
use Rattle.snapshot.specs.{Folds.rising, Calls.snapshot_formed, Inner.Holds}
use Rattle.snapshot.proofs.Calling.{snapshot_holds}
use Rattle.model.specs.Numbers.{Numbers, end_of}
use Rattle.model.specs.Log.{given, if_given, retaining, with_run as log_with_run}
use Rattle.model.specs.Backend.{Op, append_entries, append_on_prefix, set_decided, set_compacted, trim, set_promise, set_round}
use Rattle.model.specs.Backend.{set_sign, set_snapshot, Lent, supplied, Midst, step, step_guards}
use Rattle.state_cache.specs.{State.Raw, State.raw, State.sign_held, State.log_of, Inner.with_entries}
use Rattle.state_cache.specs.{declared.IndexRecord.IndexRecord}
use Rattle.backend.specs.{declared.Op.Op as CodeOp, declared.OpKind.OpKind, declared.Lent.Lent as CodeLent}
use Rattle.backend.specs.{declared.inner.step.Stepped.Stepped, Ops.of_kind, Ops.op_of, Ops.lent_of}
use Rattle.backend.specs.{Ops.incoming_formed, Inner.midst_of, Inner.Kept, Inner.rejoined, Inner.room_guards}
use Rattle.backend.specs.{Inner.Goes, Inner.Steps, Inner.Lends, Inner.only_entries, Inner.asked_keys}
use Rattle.backend.specs.{Inner.asked_words}
use Rattle.backend.proofs.Amid.{kept_count, batch_count, put_log, put_held, trim_log, trim_held}

abbrev stepped : ℕ → IndexRecord → Result Stepped Refusal
stepped start x = Ok (record { start = start; index = x })

-- done with nothing to refuse
goes_done : (gs : List Guard) (next : Midst) (start : ℕ) (x : IndexRecord) (log snapshot : List ℕ) → passes ≡ first gs
    → midst_of start (raw x log snapshot) ≡ next → Kept (raw x log snapshot)
    → Goes gs next (stepped start x) log snapshot
goes_done gs next start x log snapshot e p h = record { stands = e; after = p; kept = h }

-- two tests of the same order
ltb_same : (a b c d : ℕ) → (a < b → c < d) → (c < d → a < b) → ltb a b ≡ ltb c d
ltb_same a b c d f g = go (ltb a b) (ltb c d) refl refl
  where
    go : (s t : Bool) → ltb a b ≡ s → ltb c d ≡ t → ltb a b ≡ ltb c d
    go true t p q = p ∙ sym (lt-ltb c d (f (ltb-true a b p)))
    go false true p q = lt-ltb a b (g (ltb-true c d q)) ∙ sym q
    go false false p q = p ∙ sym q

-- the same by other names
goes_as : (gs gs' : List Guard) (next next' : Midst) (s : Result Stepped Refusal) (log snapshot : List ℕ)
    → first gs ≡ first gs' → next ≡ next' → Goes gs next s log snapshot → Goes gs' next' s log snapshot
goes_as gs gs' next next' (Ok s) log snapshot e p g = record {
  stands = g.stands ∙ e;
  after = g.after ∙ p;
  kept = g.kept;
}
goes_as gs gs' next next' (Err f) log snapshot e p g = g ∙ e

pub goes_of : (n : Numbers) (l : Lent) (m : Midst) (o : CodeOp) (k : OpKind) (s : Result Stepped Refusal) (log snapshot : List ℕ)
    → o.kind ≡ k
    → Steps n l (of_kind k o) m s log snapshot
    → Steps n l (op_of o) m s log snapshot
goes_of n l m o k s log snapshot e g =
    let p : of_kind k o ≡ op_of o = ap (λ (j : OpKind). of_kind j o) (sym e) in
    goes_as _ _ _ _ s log snapshot (ap (λ (q : Op). first (step_guards n l q m)) p) (ap (λ (q : Op). step l q m) p) g

pub is_supplied : (l : Lent) (o : CodeOp) (k : OpKind) → o.kind ≡ k → supplied l (op_of o) ≡ true
    → supplied l (of_kind k o) ≡ true
is_supplied l o k e q = ap (λ (j : OpKind). supplied l (of_kind j o)) (sym e) ∙ q

-- no stop-sign, and no snapshot
blank_none : sign_blank no_sign ≡ true
unfolding sign_blank blank all_of
blank_none = refl

empty_holds : Holds snapshot_words 0 (replicate snapshot_words 0)
unfolding laid words_of rising all_of entries_at
empty_holds = record {
  laid = laid_of snapshot_words 0 (replicate snapshot_words 0)
      (stored_laid snapshot_words [] (omega arith) refl);
  rises = refl;
}

module _ (start : ℕ) (r : Raw) (h : Kept r) where
  abbrev m : Midst
  m = midst_of start r

  -- ---- entries put into the run

  module _ (at : ℕ) (entries : List ℕ) where
    abbrev es : List Change
    es = entries_in entries

    counted : length es ≡ length entries / width
    counted = entries_length change_code (length entries / width) entries

    abbrev wanted : ℕ
    wanted = at + length (log_of r).tail.batched + length es

    room_is : wanted ≡ at + r.index.batched + length entries / width
    unfolding log_of
    room_is = omega (arith, counted, batch_count r h)

    pub put_refused : entry_room < at + r.index.batched + length entries / width
        → refuses 1 0 ≡ first (room_guards at (length es) m)
    put_refused over =
        found {gs = room_guards at (length es) m} {v = refuses 1 0}
        (stopping (lt-ltb entry_room wanted (omega (arith, room_is, over))) refl)

    pub put_goes : (words : List ℕ) → at + r.index.batched + length entries / width ≤ entry_room
        → at ≤ r.index.retained → slice_formed entries ≡ true
        → words ≡ laid (length r.log)
        (spliced (at * width) ((r.index.retained - at) * width) entries
        (take ((r.index.retained + r.index.batched) * width) r.log))
        → Goes (room_guards at (length es) m) (rejoined at es m)
        (stepped start (with_entries (at + length entries / width) r.index.batched r.index)) words
        r.snapshot
    put_goes words fits inside whole e =
        let k : at + length entries / width ≡ at + length es = omega (arith, counted) in
        goes_done (room_guards at (length es) m) (rejoined at es m) start
        (with_entries (at + length entries / width) r.index.batched r.index) words r.snapshot
        (found {gs = room_guards at (length es) m} {v = passes}
        (passing (le-ltb entry_room wanted (omega (arith, room_is, fits))) clear_all))
        (ap (λ (g : _). record { start = start; log = g })
        (put_log r h at entries words inside whole e _ k (omega (arith, fits))))
        (put_held r h at entries words inside whole e _ k (omega (arith, fits)))

  -- at an index of the run: refusal 7 first
  module _ (n : Numbers) (i kept : ℕ) (far : kept ≡ i - start) (entries words : List ℕ) where
    abbrev l : Lent
    l = only_entries entries

    abbrev beside : Bool
    beside = ltb i start || ltb r.index.retained kept

    -- no sum is taken that could pass 64 bits
    beside_is : beside ≡ (ltb i start || ltb (start + length (log_of r).run.retained) i)
    beside_is = go (ltb i start) refl
      where
        counted : length (log_of r).run.retained ≡ r.index.retained
        counted = unfold log_of in kept_count r h

        go : (t : Bool) → ltb i start ≡ t
            → (t || ltb r.index.retained kept) ≡ (t || ltb (start + length (log_of r).run.retained) i)
        go true e = refl
        go false e = let low : start ≤ i = ltb-false i start e in
            ltb_same r.index.retained kept (start + length (log_of r).run.retained) i (λ k. omega (arith, counted))
            (λ k. omega (arith, counted))

    pub prefix_outside : (end : ℕ) → end ≡ end_of n → beside ≡ true
        → refuses 7 end ≡ first (step_guards n l (append_on_prefix i) m)
    unfolding step_guards
    prefix_outside end p e =
        found {gs = step_guards n l (append_on_prefix i) m} {v = refuses 7 end} (stopping (sym beside_is ∙ e) p)

    pub prefix_inside : beside ≡ false → kept ≤ r.index.retained
    prefix_inside e = ltb-false r.index.retained kept (or_right (ltb i start) (ltb r.index.retained kept) e)

    pub prefix_goes : (s : Result Stepped Refusal) → beside ≡ false
        → Goes (room_guards kept (length (entries_in entries)) m)
        (rejoined kept (entries_in entries) m) s words r.snapshot
        → Steps n l (append_on_prefix i) m s words r.snapshot
    unfolding step_guards step
    prefix_goes s e g =
        goes_as _ _ _ _ s words r.snapshot
        (ap (λ (k : ℕ). first (room_guards k (length (entries_in entries)) m)) far
        ∙ sym (first_goes_on 7 (end_of n) (ltb i start || ltb (start + length (log_of r).run.retained) i)
        (room_guards (i - start) (length (entries_in entries)) m) (sym beside_is ∙ e)))
        (ap (λ (k : ℕ). rejoined k (entries_in entries) m) far) g

  -- ---- entries dropped

  pub trim_goes : (i below gone next : ℕ) (words : List ℕ) → below ≡ i - start → gone ≡ min below r.index.retained
      → next ≡ max start i
      → words ≡ laid (length r.log)
      (spliced 0 (gone * width) [] (take ((r.index.retained + r.index.batched) * width) r.log))
      → Goes [] (step (only_entries []) (trim i) m)
      (stepped next (with_entries (r.index.retained - gone) r.index.batched r.index)) words
      r.snapshot
  unfolding step first
  trim_goes i below gone next words p least q e =
      goes_done [] (step (only_entries []) (trim i) m) next
      (with_entries (r.index.retained - gone) r.index.batched r.index) words r.snapshot refl
      (ap₂ (λ (a : ℕ) (g : _). record { start = a; log = g }) q
      (trim_log r h below gone words least e
      ∙ ap (λ (k : ℕ). log_with_run (retaining (drop k (log_of r).run.retained) (log_of r).run) (log_of r)) p))
      (trim_held r h below gone words least e)

  -- ---- the operations

  module _ (n : Numbers) (l : Lent) where
    pub append_goes : (s : Result Stepped Refusal) (words : List ℕ)
        → Goes (room_guards r.index.retained (length l.entries) m)
        (rejoined r.index.retained l.entries m) s words r.snapshot
        → Steps n l append_entries m s words r.snapshot
    unfolding step_guards step log_of
    append_goes s words g =
        goes_as _ _ _ _ s words r.snapshot
        (ap (λ (k : ℕ). first (room_guards k (length l.entries) m)) (sym (kept_count r h)))
        (ap (λ (run : List Change).
        record { start = start; log = log_with_run (retaining (run ++ l.entries) (log_of r).run) (log_of r) })
        (take_all r.index.retained (log_of r).run.retained (omega (arith, kept_count r h))))
        g

    pub on_prefix_goes : (entries : List ℕ) (i : ℕ) (s : Result Stepped Refusal) (words : List ℕ) → l.entries ≡ entries_in entries
        → Steps n (only_entries entries) (append_on_prefix i) m s words r.snapshot
        → Steps n l (append_on_prefix i) m s words r.snapshot
    unfolding step_guards step
    on_prefix_goes entries i s words e g = rw e g

    pub promise_goes : (b : Ballot)
        → Steps n l (set_promise b) m (stepped start (record r.index { promise = b })) r.log r.snapshot
    unfolding step_guards step log_of first sign_held
    promise_goes b =
        goes_done [] (step l (set_promise b) m) start (record r.index { promise = b }) r.log r.snapshot refl refl
        (record { log = h.log; snapshot = h.snapshot; none_held = h.none_held; sign = h.sign })

    pub decided_goes : (i : LogIndex)
        → Steps n l (set_decided i.0) m
        (stepped start (record r.index { decided = i })) r.log r.snapshot
    unfolding step_guards step log_of first sign_held
    decided_goes i =
        goes_done [] (step l (set_decided i.0) m) start (record r.index { decided = i }) r.log r.snapshot refl refl
        (record { log = h.log; snapshot = h.snapshot; none_held = h.none_held; sign = h.sign })

    pub round_goes : (b : Ballot) → Steps n l (set_round b) m
        (stepped start (record r.index { accepted_round = b })) r.log r.snapshot
    unfolding step_guards step log_of first sign_held
    round_goes b =
        goes_done [] (step l (set_round b) m) start (record r.index { accepted_round = b }) r.log r.snapshot refl refl
        (record { log = h.log; snapshot = h.snapshot; none_held = h.none_held; sign = h.sign })

    pub compacted_goes : (i : LogIndex)
        → Steps n l (set_compacted i.0) m
        (stepped start (record r.index { compacted = i })) r.log r.snapshot
    unfolding step_guards step log_of first sign_held
    compacted_goes i =
        goes_done [] (step l (set_compacted i.0) m) start
        (record r.index { compacted = i }) r.log
        r.snapshot refl refl
        (record { log = h.log; snapshot = h.snapshot; none_held = h.none_held; sign = h.sign })

    pub trimmed_goes : (i : ℕ) (s : Result Stepped Refusal) (words : List ℕ)
        → Goes [] (step (only_entries []) (trim i) m) s words r.snapshot
        → Steps n l (trim i) m s words r.snapshot
    unfolding step_guards step
    trimmed_goes i s words g = g

  -- what is lent is set where one is given, since the operation is supplied
  module _ (n : Numbers) (b : CodeLent) (entries incoming : List ℕ) (f : Lends b entries incoming) where
    abbrev lent : Lent
    lent = lent_of b entries incoming

    pub sign_goes : (t : Bool) → supplied lent (set_sign t) ≡ true
        → Steps n lent (set_sign t) m
        (stepped start (record r.index { stop_held = t; stop = sign_if t b.stop })) r.log r.snapshot
    unfolding step_guards step first
    sign_goes t e =
        goes_done [] (step lent (set_sign t) m) start (record r.index { stop_held = t; stop = sign_if t b.stop }) r.log
        r.snapshot refl
        (unfold log_of in ap (λ (g : Option StopSign). record { start = start; log = record { run = (log_of r).run; tail = record { batched = (log_of r).tail.batched; size = (log_of r).tail.size; sign = g }; marks = (log_of r).marks } })
        (set t b.stop_lent e))
        (record { log = h.log; snapshot = h.snapshot; none_held = h.none_held; sign = unfold sign_held in fine t b.stop_lent e f.sign })
      where
        set : (t u : Bool) → (not t || given (if u then some b.stop else none)) ≡ true
            → (if t then some (sign_if t b.stop) else none)
            ≡ (if t then (if u then some b.stop else none) else none)
        set true true e = refl
        set true false e = absurd (true≢false (sym e))
        set false u e = refl

        fine : (t u : Bool) → (not t || given (if u then some b.stop else none)) ≡ true
            → if_given sign_formed (if u then some b.stop else none) ≡ true
            → ((t && sign_formed (sign_if t b.stop)) || (not t && sign_blank (sign_if t b.stop))) ≡ true
        fine true true e q = rw q
        fine true false e q = absurd (true≢false (sym e))
        fine false u e q = blank_none

    pub snapshot_goes : (t : Bool) → supplied lent (set_snapshot t) ≡ true
        → Steps n lent (set_snapshot t) m
        (stepped start (record r.index { snapshot_held = t; keys = asked_keys t b.keys })) r.log (asked_words t incoming)
    unfolding step_guards step first
    snapshot_goes t e =
        goes_done [] (step lent (set_snapshot t) m) start
        (record r.index { snapshot_held = t; keys = asked_keys t b.keys }) r.log
        (asked_words t incoming) refl
        (unfold log_of in ap (λ (g : Option (List Change)). record { start = start; log = record { run = record { compacted = (log_of r).run.compacted; retained = (log_of r).run.retained; held = g }; tail = (log_of r).tail; marks = (log_of r).marks } })
        (set t b.snapshot_lent e))
        (record { log = h.log; snapshot = fine t b.snapshot_lent e (unfold incoming_formed in and_right (eqb (length incoming) snapshot_words) (not b.snapshot_lent || snapshot_formed b.keys incoming) f.snapshot); none_held = kept t; sign = unfold sign_held in h.sign })
      where
        set : (t u : Bool) → (not t || given (if u then some (entries_of b.keys incoming) else none)) ≡ true
            → (if t then some (entries_of (asked_keys t b.keys) (asked_words t incoming)) else none)
            ≡ (if t then (if u then some (entries_of b.keys incoming) else none) else none)
        set true true e = refl
        set true false e = absurd (true≢false (sym e))
        set false u e = refl

        fine : (t u : Bool) → (not t || given (if u then some (entries_of b.keys incoming) else none)) ≡ true
            → (not u || snapshot_formed b.keys incoming) ≡ true
            → Holds snapshot_words (asked_keys t b.keys) (asked_words t incoming)
        fine true true e q = snapshot_holds b.keys incoming q
        fine true false e q = absurd (true≢false (sym e))
        fine false u e q = empty_holds

        kept : (t : Bool) → (t || eqb (asked_keys t b.keys) 0) ≡ true
        kept true = refl
        kept false = refl
