-- `reading::read` meets its contract: the entries shown are those that the reply names.
use Rattle.words.proofs.Prelude.{ap, ◌∙◌, Option}
use Rattle.entry.specs.Guards.{Answer}
use Rattle.model.specs.Read.{Shown}
use Rattle.state_cache.specs.State.{raw}
use Rattle.reading.specs.Replies.{part_shown, part_shown_at}
use Rattle.reading.proofs.read.Goals as goal

pub returns : goal.returns
returns c =
    let log = c.args.log in
    let shown = c.entries_shown-entries.ensures (raw c.args.index log.now c.args.snapshot.now) in
    let r = c.read_reply-reply.ensures in (
      r,
      shown.0 ∙ ap (λ (a : Answer (Option Shown)). part_shown a log.now) r,
      shown.1 ∙ ap (λ (a : Answer (Option Shown)). part_shown_at a log.now log.ref_ptr) r,
    )
