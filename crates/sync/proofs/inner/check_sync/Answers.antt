-- `sync::inner::check_sync` meets its contract: past the k-th test the verdict is that of the refusals from there on.
use Rattle.words.proofs.Prelude.{arith, ◌≡◌, refl, sym, ◌∙◌, ℕ, ◌+◌, ◌≤◌, true, false, ◌&&◌, ◌||◌, ltb, lt-ltb}
use Rattle.words.proofs.Prelude.{le-ltb, List, drop}
use Rattle.std.specs.Prelude.{is_none, is_some}
use Rattle.entry.specs.{Limits.last_index, Guards.Guard, Guards.first, declared.LogIndex.LogIndex}
use Rattle.entry.proofs.GuardLaws.{clear_all, passing, stopping, found, first_goes_on}
use Rattle.model.specs.{Numbers.end_of, Sync.part_number_guards}
use Rattle.state_cache.specs.State.{numbers_in, one_if}
use Rattle.state_cache.specs.declared.IndexRecord.{IndexRecord}
use Rattle.sync.specs.Requests.{numbers_by}
use Rattle.sync.specs.declared.LogSync.{LogSync}
use Rattle.sync.proofs.Checking.{none_is, one_is, past_is, outside_is, above_is, kept_few, no_room, room}
use Rattle.sync.proofs.Checking.{above_accepted}
use Rattle.sync.proofs.Checking.{not_above}
use Rattle.sync.proofs.inner.check_sync.Goals as goal
use Rattle.sync.proofs.inner.check_sync.Goals.{After-kept_of-kept, Else-idx-decided, Else-kept-waiting}
use Rattle.sync.proofs.inner.check_sync.Goals.{Else-past_last, Else-plain-idx, Else-stop-waiting, Else-stop_decided}
use Rattle.sync.proofs.inner.check_sync.Goals.{Else-then-next}

abbrev guards : LogSync → ℕ → LogIndex → IndexRecord → List Guard
guards x n decided y = part_number_guards decided.0 (numbers_by x n) (numbers_in y)

-- the verdict is that of the refusals from the i-th on
abbrev Left : ℕ → List Guard → Type 0
Left i gs = first gs ≡ first (drop i gs)

abbrev Inside : LogSync → IndexRecord → Type 0
Inside x y = (is_none x.decided_snapshot
    && (ltb x.sync_idx.0 (numbers_in y).compacted || ltb (end_of (numbers_in y)) x.sync_idx.0)) ≡ false

left1 : (e : Else-stop_decided) → Left 1 (guards e.args.log_sync e.args.n e.args.decided_idx e.args.index)
unfolding part_number_guards
left1 e = first_goes_on 4 _ _ _ (sym e.stop_decided.ensures ∙ e.if-stop_decided.false)

left2 : (e : Else-idx-decided) → Left 1 (guards e.args.log_sync e.args.n e.args.decided_idx e.args.index)
    → Left 2 (guards e.args.log_sync e.args.n e.args.decided_idx e.args.index)
unfolding part_number_guards
left2 e l = l ∙ first_goes_on 5 _ _ _ (le-ltb _ _ e.if-idx-decided.false)

inside : (e : Else-plain-idx) → Inside e.args.log_sync e.args.index
inside e =
    outside_is _ (numbers_in e.args.index) _ _ _ (none_is _ _ e.is_none-plain.ensures) e.end-end.ensures false
    e.if-plain-idx.false

left3 : (e : Else-plain-idx) → Left 2 (guards e.args.log_sync e.args.n e.args.decided_idx e.args.index)
    → Left 3 (guards e.args.log_sync e.args.n e.args.decided_idx e.args.index)
unfolding part_number_guards
left3 e l = l ∙ first_goes_on 7 _ _ _ (inside e)

left4 : (e : Else-stop-waiting) → Left 3 (guards e.args.log_sync e.args.n e.args.decided_idx e.args.index)
    → Left 4 (guards e.args.log_sync e.args.n e.args.decided_idx e.args.index)
unfolding part_number_guards
left4 e l = l ∙ first_goes_on 10 _ _ _ (rw (← e.is_some-stop.ensures) e.if-stop-waiting.false)

indexed : (e : Else-past_last)
    → ltb last_index (e.args.log_sync.sync_idx.0 + e.args.n + one_if (is_some e.args.log_sync.stopsign)
    + (numbers_in e.args.index).batched) ≡ false
indexed e =
    past_is _ _ _ _ (is_some e.args.log_sync.stopsign) _ (one_is _ _ _ e.is_some-stop.ensures e.from-one.ensures)
    e.past_last.ensures ∙ e.if-past_last.false

left5 : (e : Else-past_last) → Left 4 (guards e.args.log_sync e.args.n e.args.decided_idx e.args.index)
    → Left 5 (guards e.args.log_sync e.args.n e.args.decided_idx e.args.index)
unfolding part_number_guards
left5 e l = l ∙ first_goes_on 9 _ _ _ (indexed e)

few : (m : After-kept_of-kept) → Inside m.args.log_sync m.args.index
    → m.kept_of-kept.result ≤ (numbers_in m.args.index).retained
few m h =
    kept_few m.args.log_sync.sync_idx.0 (numbers_in m.args.index) _ m.kept_of-kept.result m.kept_of-kept.ensures h

left6 : (e : Else-kept-waiting) → e.kept_of-kept.result ≤ (numbers_in e.args.index).retained
    → Left 5 (guards e.args.log_sync e.args.n e.args.decided_idx e.args.index)
    → Left 6 (guards e.args.log_sync e.args.n e.args.decided_idx e.args.index)
unfolding part_number_guards
left6 e h l =
    l ∙ first_goes_on 1 _ _ _ (room e.args.log_sync.sync_idx.0 e.args.n e.kept_of-kept.result _
    (numbers_in e.args.index)
    e.requires e.kept_of-kept.ensures h e.if-kept-waiting.false)

left7 : (e : Else-then-next) → Left 6 (guards e.args.log_sync e.args.n e.args.decided_idx e.args.index)
    → Left 7 (guards e.args.log_sync e.args.n e.args.decided_idx e.args.index)
unfolding part_number_guards
left7 e l =
    l ∙ first_goes_on 6 _ _ _ (not_above e.args.log_sync.sync_idx.0 e.args.n e.args.decided_idx.0 _ _
    (is_some e.args.log_sync.stopsign) (numbers_in e.args.index)
    (one_is _ _ _ e.is_some-stop.ensures e.from-one.ensures) e.max-next.ensures e.if-then-next.false)

pub returns-then-stop_decided : goal.returns-then-stop_decided
unfolding part_number_guards
returns-then-stop_decided c =
    found {gs = (guards c.args.log_sync c.args.n c.args.decided_idx c.args.index)}
    (stopping (sym c.stop_decided.ensures ∙ c.if-stop_decided.true)
    c.accepted-last.ensures)

pub returns-then-idx-decided : goal.returns-then-idx-decided
unfolding part_number_guards
returns-then-idx-decided c =
    let at = goal.at.returns-then-idx-decided c in
    found {gs = drop 1 (guards c.args.log_sync c.args.n c.args.decided_idx c.args.index)}
    (stopping (lt-ltb _ _ c.if-idx-decided.true) refl) ∙ sym (left1 at.Else-stop_decided)

pub returns-then-plain-idx : goal.returns-then-plain-idx
unfolding part_number_guards
returns-then-plain-idx c =
    let at = goal.at.returns-then-plain-idx c in
    found {gs = drop 2 (guards c.args.log_sync c.args.n c.args.decided_idx c.args.index)}
    (stopping (outside_is _ (numbers_in c.args.index) _ _ _ (none_is _ _ c.is_none-plain.ensures)
    c.end-end.ensures true c.if-plain-idx.true)
    c.end-end.ensures)
    ∙ sym (left2 at.Else-idx-decided (left1 at.Else-stop_decided))

pub returns-then-stop-waiting : goal.returns-then-stop-waiting
unfolding part_number_guards
returns-then-stop-waiting c =
    let at = goal.at.returns-then-stop-waiting c in
    found {gs = drop 3 (guards c.args.log_sync c.args.n c.args.decided_idx c.args.index)}
    (stopping (rw (← c.is_some-stop.ensures) c.if-stop-waiting.true) refl) ∙ sym
    (left3 at.Else-plain-idx (left2 at.Else-idx-decided (left1 at.Else-stop_decided)))

pub returns-then-past_last : goal.returns-then-past_last
unfolding part_number_guards
returns-then-past_last c =
    let at = goal.at.returns-then-past_last c in
    found {gs = drop 4 (guards c.args.log_sync c.args.n c.args.decided_idx c.args.index)}
    (stopping (past_is _ _ _ _ (is_some c.args.log_sync.stopsign) _
    (one_is _ _ _ c.is_some-stop.ensures c.from-one.ensures)
    c.past_last.ensures ∙ c.if-past_last.true) c.accepted-last.ensures)
    ∙ sym (left4 at.Else-stop-waiting (left3 at.Else-plain-idx
    (left2 at.Else-idx-decided (left1 at.Else-stop_decided))))

pub overflow_sub-kept : goal.overflow_sub-kept
overflow_sub-kept c =
    let at = goal.at.overflow_sub-kept c in
    omega (arith, few at.After-kept_of-kept (inside at.Else-plain-idx), c.requires.room)

pub returns-then-kept-waiting : goal.returns-then-kept-waiting
unfolding part_number_guards
returns-then-kept-waiting c =
    let at = goal.at.returns-then-kept-waiting c in
    found {gs = drop 5 (guards c.args.log_sync c.args.n c.args.decided_idx c.args.index)}
    (stopping (no_room c.args.log_sync.sync_idx.0 c.args.n
    c.kept_of-kept.result _ (numbers_in c.args.index) c.requires c.kept_of-kept.ensures
    (few at.After-kept_of-kept (inside at.Else-plain-idx)) c.if-kept-waiting.true) refl)
    ∙ sym (left5 at.Else-past_last (left4 at.Else-stop-waiting
    (left3 at.Else-plain-idx (left2 at.Else-idx-decided (left1 at.Else-stop_decided)))))

pub returns-then-then-next : goal.returns-then-then-next
unfolding part_number_guards
returns-then-then-next c =
    let at = goal.at.returns-then-then-next c in
    found {gs = drop 6 (guards c.args.log_sync c.args.n c.args.decided_idx c.args.index)}
    (stopping
    (above_accepted c.args.log_sync.sync_idx.0 c.args.n
    c.args.decided_idx.0 _ _ (is_some c.args.log_sync.stopsign) (numbers_in c.args.index)
    (one_is _ _ _ c.is_some-stop.ensures c.from-one.ensures) c.max-next.ensures c.if-then-next.true)
    (omega (arith, (one_is _ _ _ c.is_some-stop.ensures c.from-one.ensures))))
    ∙ sym (left6 at.Else-kept-waiting (few at.After-kept_of-kept (inside at.Else-plain-idx))
    (left5 at.Else-past_last (left4 at.Else-stop-waiting (left3 at.Else-plain-idx
    (left2 at.Else-idx-decided (left1 at.Else-stop_decided))))))

pub returns-then-plain-next : goal.returns-then-plain-next
unfolding part_number_guards
returns-then-plain-next c =
    let at = goal.at.returns-then-plain-next c in
    found {gs = drop 7 (guards c.args.log_sync c.args.n c.args.decided_idx c.args.index)}
    (stopping (above_is _ c.args.decided_idx.0 _ (numbers_in c.args.index) _ _ (none_is _ _ c.is_none-plain.ensures)
    c.max-next.ensures true c.if-plain-next.true) c.max-next.ensures)
    ∙ sym (left7 at.Else-then-next (left6 at.Else-kept-waiting (few at.After-kept_of-kept (inside at.Else-plain-idx))
    (left5 at.Else-past_last (left4 at.Else-stop-waiting (left3 at.Else-plain-idx
    (left2 at.Else-idx-decided (left1 at.Else-stop_decided)))))))

pub returns : goal.returns
unfolding part_number_guards
returns c =
    let at = goal.at.returns c in
    found {gs = drop 7 (guards c.args.log_sync c.args.n c.args.decided_idx c.args.index)}
    (passing (above_is _ c.args.decided_idx.0 _ (numbers_in c.args.index) _ _ (none_is _ _ c.is_none-plain.ensures)
    c.max-next.ensures false c.if-plain-next.false) clear_all)
    ∙ sym (left7 at.Else-then-next (left6 at.Else-kept-waiting (few at.After-kept_of-kept (inside at.Else-plain-idx))
    (left5 at.Else-past_last (left4 at.Else-stop-waiting (left3 at.Else-plain-idx
    (left2 at.Else-idx-decided (left1 at.Else-stop_decided)))))))
