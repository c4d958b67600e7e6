-- `internal_storage::inner::stop::set_stop_at` meets its contract: each return takes the tests as far as it came.
use Rattle.words.proofs.Prelude.{arith, ◌≡◌, refl, sym, ap, ap₂, ◌∙◌, ℕ, Bool, ◌+◌, ◌≤◌, ◌<◌, lt-ltb, le-ltb}
use Rattle.std.specs.Prelude.{is_some, unwrap_or}
use Rattle.entry.specs.{Guards.replied, Limits.last_index, Sign.no_sign, declared.StopSign.StopSign}
use Rattle.entry.proofs.GuardLaws.{clear_all, passing, stopping}
use Rattle.model.specs.{Numbers.end_of, Numbers.accepted_of, Append.set_stop_guards}
use Rattle.state_cache.specs.{State.numbers_in, Inner.with_stop, declared.IndexRecord.IndexRecord}
use Rattle.internal_storage.specs.Inner.{indexed}
use Rattle.internal_storage.proofs.Verdicts.{moves, stays}
use Rattle.internal_storage.proofs.inner.stop.set_stop_at.Goals as goal
use Rattle.internal_storage.proofs.inner.stop.set_stop_at.Goals.{After-accepted-then}

-- the record with the stop-sign set, as the code has it
abbrev told : IndexRecord → Bool → StopSign → IndexRecord
told x held g = with_stop held g x

next_is : (e : After-accepted-then) → with_stop e.is_some-2.result e.unwrap_or-next.result e.args.index.now
    ≡ with_stop (is_some e.args.ss) (unwrap_or e.args.ss no_sign) e.args.index.now
next_is e =
    ap₂ (told e.args.index.now) e.is_some-2.ensures
    (e.unwrap_or-next.ensures ∙ ap (unwrap_or e.args.ss) e.no_sign.ensures)

same_accepted : (e : After-accepted-then) → e.accepted-then.result
    ≡ accepted_of (numbers_in (with_stop (is_some e.args.ss) (unwrap_or e.args.ss no_sign) e.args.index.now))
same_accepted e = e.accepted-then.ensures ∙ ap (λ (x : IndexRecord). accepted_of (numbers_in x)) (next_is e)

pub returns-then-stop_decided : goal.returns-then-stop_decided
unfolding set_stop_guards
returns-then-stop_decided c =
    stays _ _ (stopping (sym c.stop_decided.ensures ∙ c.if-stop_decided.true) c.accepted-last.ensures)

pub returns-then-is_some-waiting : goal.returns-then-is_some-waiting
unfolding set_stop_guards
returns-then-is_some-waiting c =
    stays _ _ (passing (sym c.stop_decided.ensures ∙ c.if-stop_decided.false)
    (stopping (rw (← c.is_some.ensures) c.if-is_some-waiting.true) refl))

pub returns-then-then-waiting-gt-LAST_INDEX : goal.returns-then-then-waiting-gt-LAST_INDEX
unfolding set_stop_guards accepted_of end_of
returns-then-then-waiting-gt-LAST_INDEX c =
    let h : last_index
    < accepted_of (numbers_in (with_stop (is_some c.args.ss) (unwrap_or c.args.ss no_sign) c.args.index.now))
    + c.args.index.now.batched =
    let q = same_accepted (goal.at.returns-then-then-waiting-gt-LAST_INDEX c).After-accepted-then in
    omega (arith, q, c.if-then-waiting-gt-LAST_INDEX.true) in
    stays _ _ (passing (sym c.stop_decided.ensures ∙ c.if-stop_decided.false)
    (passing (rw (← c.is_some.ensures) c.if-is_some-waiting.false) (stopping (lt-ltb _ _ h) c.accepted-last.ensures)))

pub returns : goal.returns
unfolding set_stop_guards accepted_of end_of
returns c =
    let e = (goal.at.returns c).After-accepted-then in
    let q = same_accepted e in
    let h : accepted_of (numbers_in (with_stop (is_some c.args.ss) (unwrap_or c.args.ss no_sign) c.args.index.now))
    + c.args.index.now.batched ≤ last_index =
    omega (arith, q, c.if-then-waiting-gt-LAST_INDEX.false) in
    ap₂ (λ (x : IndexRecord) (y : ℕ). indexed (replied y) x) (next_is e) q
    ∙ (moves _ (passing (sym c.stop_decided.ensures ∙ c.if-stop_decided.false)
    (passing (rw (← c.is_some.ensures) c.if-is_some-waiting.false) (passing (le-ltb _ _ h) clear_all))))
