-- `reading::inner::run_of` meets its contract: the calls' results are the run's numbers.
use Rattle.words.proofs.Prelude.{◌∙◌}
use Rattle.reading.proofs.{Replying.marker_at_lem}
use Rattle.reading.proofs.inner.run_of.Goals as goal

pub returns : goal.returns
returns c =
    rw (
      c.saturating_sub-3.ensures,
      c.saturating_sub-4.ensures,
      c.min-known.ensures,
      c.min-end.ensures,
      c.saturating_sub.ensures,
      c.saturating_sub-2.ensures,
      c.saturating_sub-start.ensures,
      c.stop_decided-decided.ensures,
      c.accepted-last.ensures,
      c.marker_of-marker.ensures ∙ marker_at_lem _ _ _ c.requires.1,
    )
