-- `reading::inner::get_suffix_reply` meets its contract: by the numbers.
use Rattle.words.proofs.Prelude.{ap, ◌∙◌}
use Rattle.state_cache.specs.State.{raw}
use Rattle.entry.specs.Guards.{replied}
use Rattle.reading.specs.declared.Span.{Span as CodeSpan}
use Rattle.reading.specs.Replies.{span_is}
use Rattle.reading.proofs.{Showing.suffix_answer}
use Rattle.reading.proofs.inner.get_suffix_reply.Goals as goal

pub returns : goal.returns
returns c =
    let x = raw c.args.index c.args.log.now c.args.snapshot.now in
    ap (λ (s : CodeSpan). replied (span_is c.args.log.now s)) c.between.ensures
    ∙ suffix_answer x c.requires c.args.from.0 _ c.end.ensures
