-- `reading::inner::fill` meets its contract: at each turn the replies to the keys before are written.
use Rattle.words.proofs.Prelude.{arith, refl, ◌∙◌, ◌+◌}
use Rattle.state_cache.specs.State.{raw}
use Rattle.reading.proofs.Filling.{fill_start, fill_length, fill_turn, fill_done}
use Rattle.reading.proofs.inner.fill.Goals as goal

pub loop-i-init : goal.loop-i-init
loop-i-init c =
    let r = raw c.args.index c.args.log.now c.args.snapshot.now in
    (refl, fill_start r c.args.keys.now c.args.replies.now)

pub loop-i-preserved : goal.loop-i-preserved
loop-i-preserved c =
    let l = c.loop-i in
    let r = raw c.args.index c.args.log.now c.args.snapshot.now in
    let keys = c.args.keys.now in
    let out = c.args.replies.now in
    let e = c.copy_in.ensures ∙ fill_turn r c.requires.ready.okay keys l.i out l.replies l.invariant.1
    (omega arith) c.look-known.result c.look-known.ensures c.reply-reply.result c.reply-reply.ensures in
    (fill_length r c.requires.ready.okay keys (l.i + 1) out c.copy_in.new.s e (omega arith) (omega arith), e)

pub returns : goal.returns
returns c =
    let l = c.loop-i in
    let r = raw c.args.index c.args.log.now c.args.snapshot.now in
    fill_done r c.requires.ready.okay c.args.keys.now l.i c.args.replies.now l.replies l.invariant.1 (omega arith)
