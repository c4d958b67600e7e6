-- `entry::inner::joined` meets its contract: where the `or` is below 2^48 each place passed is in form, so that only
-- the rest is asked.
use Rattle.words.proofs.Prelude.{◌≡◌, ◌≤◌, ◌<◌, true}
use Rattle.words.proofs.Prelude.{drop}
use Rattle.entry.specs.{Limits.places}
use Rattle.entry.specs.{Change.entries_formed, Change.entries_of}
use Rattle.entry.proofs.inner.joined.Given as goal

abbrev pub invariant-loop-i : goal.invariant-loop-i
invariant-loop-i l = (l.i ≤ l.n)
    × (l.all < places → entries_formed (drop l.i (entries_of l.n l.s)) ≡ true → entries_formed (entries_of l.n l.s) ≡ true)
