-- A sync's request: refusal 11, or what is known of it; and a sync without log part.
use Rattle.words.proofs.Prelude.{arith, ◌≡◌, refl, sym, ap, ◌∙◌, ℕ, max, Bool, true, false, true≢false, ◌&&◌, not}
use Rattle.words.proofs.Prelude.{eqb, leb, le-leb, none, List, length}
use Rattle.std.specs.Prelude.{Option as Optional, Some, None, is_none, Result}
use Rattle.words.proofs.{Tests.and_left, Tests.and_right, Tests.both_true, CodedLaws.entries_length}
use Rattle.entry.specs.{Limits.key_room, Limits.snapshot_words, Change.change_code, Change.entries_formed}
use Rattle.entry.specs.{Change.entries_of}
use Rattle.entry.specs.{Change.whole_in, Guards.first, Guards.refused, Guards.settle, declared.Ballot.Ballot}
use Rattle.entry.specs.{declared.LogIndex.LogIndex, declared.Refusal.Refusal}
use Rattle.snapshot.specs.{Folds.rising, Inner.Holds}
use Rattle.snapshot.proofs.Calling.{snapshot_holds}
use Rattle.model.specs.{Numbers.end_of, Numbers.accepted_of, Log.Log, Log.if_given, Log.keys_formed, Diff.snapshot_in}
use Rattle.model.specs.{Sync.part_formed, Sync.round_guards, Calls.Call, Calls.sync, Calls.malformed, Calls.further}
use Rattle.model.specs.{Calls.sync_guards, Calls.synced, Calls.effect, Calls.reply_of}
use Rattle.state_cache.specs.{State.Raw, State.raw, State.numbers_in, State.formed, State.log_of, Run.outcome, Run.run}
use Rattle.state_cache.specs.{Run.changed_at, Run.index_at, declared.IndexRecord.IndexRecord}
use Rattle.state_cache.proofs.Stands.{Stands, stands_of, numbers_are, ready_of}
use Rattle.state_cache.proofs.Runs.{not_whole, bad_call}
use Rattle.internal_storage.specs.Inner.{next_at}
use Rattle.internal_storage.proofs.Effects.{numbers_run_at}
use Rattle.sync.specs.{Requests.given_by, Requests.part_of, Requests.lent_whole, Requests.rest_formed}
use Rattle.sync.specs.{Requests.request_formed, Inner.marked, Inner.Syncs, declared.LogSync.LogSync}
use Rattle.sync.specs.{declared.SnapshotType.SnapshotType, declared.SnapshotType.TheVariants.Complete}
use Rattle.sync.specs.{declared.SnapshotType.TheVariants.Delta}

and_none : (a : Bool) → (a && false) ≡ false
and_none true = refl
and_none false = refl

-- a snapshot in its words is one of the model's in form, of either kind
snapshot_formed_lem : (k : Optional SnapshotType) (n : ℕ) (ws : List ℕ)
    → (is_none k ≡ false → Holds snapshot_words n ws)
    → if_given keys_formed (snapshot_in (given_by k (entries_of n ws))) ≡ true
snapshot_formed_lem k n ws h = go k h
  where
    fine : Holds snapshot_words n ws → keys_formed (entries_of n ws) ≡ true
    fine l =
        unfold keys_formed in
        both_true (rising (entries_of n ws)) _ l.rises
        (both_true (leb (length (entries_of n ws)) key_room) (entries_formed (entries_of n ws)) (le-leb (length
        (entries_of n ws)) key_room (omega (arith, entries_length change_code n ws, l.laid.fits))) l.laid.fine)

    go : (k : Optional SnapshotType) → (is_none k ≡ false → Holds snapshot_words n ws)
        → if_given keys_formed (snapshot_in (given_by k (entries_of n ws))) ≡ true
    go None h = refl
    go (Some Complete) h = fine (h refl)
    go (Some Delta) h = fine (h refl)

-- without log part: the marks alone
module _ (r : Raw) (ok : formed r ≡ true) (b : Ballot) (d : ℕ) where
  abbrev s : Log
  s = log_of r

  marked_stands : Stands (effect (sync b d none) s) (raw (marked b d r.index) r.log r.snapshot)
  unfolding effect synced
  marked_stands =
      let st = stands_of r ok in
      record {
        run = st.run;
        tail = st.tail;
        marks = record { index = ap (max d) st.marks.index; promised = st.marks.promised; rounded = refl };
        log = st.log;
        snapshot = st.snapshot;
      }

  same_accepted : accepted_of (numbers_in r.index) ≡ accepted_of (numbers_in (marked b d r.index))
  unfolding accepted_of end_of
  same_accepted = refl

  pub round_run : (a : Result (IndexRecord × LogIndex) Refusal)
      → next_at index_at a ≡ settle (first (round_guards d (numbers_in r.index)))
      (marked b d r.index, accepted_of (numbers_in r.index))
      → changed_at index_at r.index a r.log r.snapshot ≡ run (sync b d none) true r
  unfolding malformed further sync_guards synced effect reply_of
  round_run a e =
      numbers_run_at r ok (sync b d none) (round_guards d) refl refl index_at (accepted_of (numbers_in r.index))
      (marked b d r.index)
      (λ q. (
        same_accepted ∙ ap accepted_of (sym (numbers_are (effect (sync b d none) s)
            (raw (marked b d r.index) r.log r.snapshot) marked_stands)),
        marked_stands,
      )) a e

module _ (r : Raw) (ok : formed r ≡ true) (x : Optional LogSync) (incoming suffix : List ℕ) (b : Ballot) (d : ℕ) where
  abbrev call_of : Call
  call_of = sync b d (part_of x incoming suffix)

  abbrev whole_of : Bool
  whole_of = lent_whole x incoming suffix

  bad : (y : Optional LogSync) → rest_formed y suffix ≡ false → malformed (sync b d (part_of y incoming suffix)) ≡ true
  unfolding malformed part_formed
  bad None e = absurd (true≢false e)
  bad (Some y) e =
      rw e (ap not
      (and_none (if_given keys_formed (snapshot_in (given_by y.decided_snapshot (entries_of y.keys incoming))))))

  pub ask_refused : request_formed x incoming suffix ≡ false → outcome (refused 11 0) r ≡ run call_of whole_of r
  unfolding request_formed
  ask_refused e = go whole_of refl
    where
      go : (t : Bool) → whole_of ≡ t → outcome (refused 11 0) r ≡ run call_of t r
      go true q = bad_call call_of r ok (bad x (rw q at e))
      go false q = not_whole call_of false r ok refl

  -- of a request in form the words are whole
  pub ask_goes_on : request_formed x incoming suffix ≡ true → run call_of true r ≡ run call_of whole_of r
  unfolding request_formed
  ask_goes_on e = ap (λ (t : Bool). run call_of t r) (sym (and_left whole_of (rest_formed x suffix) e))

pub ask_syncs : (r : Raw) → formed r ≡ true → (x : LogSync) (incoming suffix : List ℕ)
    → request_formed (Some x) incoming suffix ≡ true → Syncs r x incoming suffix
unfolding request_formed lent_whole part_formed
ask_syncs r ok x incoming suffix e =
    let f = and_left (lent_whole (Some x) incoming suffix) _ e in
    let q = and_right (eqb (length incoming) snapshot_words) _ f in
    let lent : is_none x.decided_snapshot ≡ false → Holds snapshot_words x.keys incoming =
    λ (p : is_none x.decided_snapshot ≡ false). snapshot_holds x.keys incoming
    (rw p at (and_right (whole_in suffix) _ q)) in
    record {
      ready = ready_of r ok;
      whole = and_left (whole_in suffix) _ q;
      lent = lent;
      fine =
          both_true (if_given keys_formed
          (snapshot_in (given_by x.decided_snapshot (entries_of x.keys incoming)))) _
          (snapshot_formed_lem x.decided_snapshot x.keys incoming lent)
          (and_right (lent_whole (Some x) incoming suffix) _ e);
    }
