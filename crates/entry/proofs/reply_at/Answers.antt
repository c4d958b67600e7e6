-- `entry::reply_at` meets its contract: past the replies, or by the word that stands there.
use Rattle.words.proofs.Prelude.{ap, ◌∙◌, some}
use Rattle.entry.specs.Change.{Said}
use Rattle.entry.proofs.ReplyLaws.{reply_past, reply_there, reply_unknown, reply_said_lem}
use Rattle.entry.proofs.reply_at.Goals as goal

pub returns-then-replies-i : goal.returns-then-replies-i
returns-then-replies-i c =
    reply_past c.args.replies.now c.args.i c.if-replies-i.true

pub returns-then-word : goal.returns-then-word
returns-then-word c =
    reply_unknown _ c.if-word.true ∙ reply_there c.args.replies.now c.args.i c.if-replies-i.false

pub returns : goal.returns
returns c =
    ap (λ (s : Said). some s) c.said_of.ensures
    ∙ reply_said_lem _ c.if-word.false
    ∙ reply_there c.args.replies.now c.args.i c.if-replies-i.false
