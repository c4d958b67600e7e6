-- `replay::shown::put_shown` meets its contract: the lines one after another, and no more entries than a log has.
use Rattle.words.proofs.Prelude.{arith, ◌≡◌, ap, ◌∙◌, ℕ, ◌+◌, ◌/◌, ◌≤◌, List, [], length, take}
use Rattle.entry.specs.Limits.{log_words}
use Rattle.model.specs.Log.{given}
use Rattle.state_cache.proofs.Small.{one-le, from_bool-one_if}
use Rattle.reading.specs.{Parts.part, Replies.marker_said}
use Rattle.replay.proofs.Telling.{part_few, shown_is}
use Rattle.replay.proofs.shown.put_shown.Goals as goal
use Rattle.replay.proofs.shown.put_shown.Goals.{After-lines_of_marker}

-- the entries shown are at most the log's
few : (first count : ℕ) (log entries : List ℕ) → length log ≡ log_words → entries ≡ part first count log → length entries ≤ log_words
few first count log entries h e = rw e (omega (arith, part_few first count log, h))

module _ (k : After-lines_of_marker) where
  shown : length k.entries_of-entries.result.now ≤ log_words
  shown = few k.args.run.first k.args.run.count k.args.log.now _ k.requires.1 k.entries_of-entries.ensures.0

  marked : k.lines_of_marker.result ≤ 1
  marked = omega (arith, k.lines_of_marker.ensures [], one-le (given (marker_said [] k.args.run.marker)))

pub overflow_add-lines : goal.overflow_add-lines
overflow_add-lines c =
    let k = (goal.at.overflow_add-lines c).After-lines_of_marker in
    omega (arith, shown k, marked k)

pub overflow_add-lines-2 : goal.overflow_add-lines-2
overflow_add-lines-2 c =
    let k = (goal.at.overflow_add-lines-2 c).After-lines_of_marker in
    let stop = c.args.run.stop in
    omega (arith, shown k, marked k, c.from.ensures, from_bool-one_if stop, one-le stop)

pub put_run-c-requires-clause-n_in_bounds : goal.put_run-c-requires-clause-n_in_bounds
put_run-c-requires-clause-n_in_bounds c =
    let k = (goal.at.put_run-c-requires-clause-n_in_bounds c).After-lines_of_marker in
    omega
    (arith, shown k, c.put_line-a.ensures.upper_bound, c.put_line-a.auto, c.put_marker-b.ensures.upper_bound, c.put_marker-b.auto, c.requires)

pub put_stop-requires : goal.put_stop-requires
put_stop-requires c =
    let k = (goal.at.put_stop-requires c).After-lines_of_marker in
    omega
    (arith, shown k, c.put_line-a.ensures.upper_bound, c.put_line-a.auto, c.put_marker-b.ensures.upper_bound, c.put_marker-b.auto, c.requires, c.put_run-c.ensures.upper_bound, c.put_run-c.auto)

pub returns : goal.returns
returns c =
    let k = (goal.at.returns c).After-lines_of_marker in
    record {
      upper_bound = omega (arith, shown k, c.put_line-a.ensures.upper_bound, c.put_marker-b.ensures.upper_bound, c.put_run-c.ensures.upper_bound, c.put_stop.ensures.upper_bound, c.requires);
      by_index = λ (snapshot : List ℕ). shown_is (take c.args.at c.args.out.now) c.args.run c.args.index c.args.log.now snapshot
          c.entries_of-entries.result.now c.lines_of_marker.result _ c.entries_of-entries.ensures.0 (c.lines_of_marker.ensures snapshot) (ap (λ (k : ℕ). c.lines_of_marker.result + length c.entries_of-entries.result.now / 2 + k) (c.from.ensures ∙ from_bool-one_if c.args.run.stop)) c.put_line-a.ensures.out_after (c.put_marker-b.ensures.by_index snapshot) c.put_run-c.ensures.out_after c.put_stop.ensures.out_after;
    }
