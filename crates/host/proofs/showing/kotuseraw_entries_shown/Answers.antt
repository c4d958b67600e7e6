use Rattle.words.proofs.Prelude.{ap, ◌∙◌, ℕ, List}
use Rattle.model.specs.Log.{fresh_log}
use Rattle.state_cache.specs.State.{raw_of}
use Rattle.host.specs.Reads.{copied_out}
use Rattle.host.proofs.showing.kotuseraw_entries_shown.Goals as goal

pub returns : goal.returns
returns c =
    let any = raw_of (fresh_log 0) in
    c.copy_out.ensures
    ∙ ap (λ (p : List ℕ). copied_out p c.args.out.now)
    ((c.entries_shown.ensures any).0
    ∙ c.reply_of-reply.ensures any c.args.log.now)
