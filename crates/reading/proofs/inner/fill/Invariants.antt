-- `reading::inner::fill` meets its contract: at each turn the replies to the keys before are written.
use Rattle.words.proofs.Prelude.{◌≡◌, length, take}
use Rattle.words.specs.Coded.{over}
use Rattle.entry.specs.Reply.{reply_code}
use Rattle.state_cache.specs.State.{raw}
use Rattle.reading.proofs.Filling.{replies_to}
use Rattle.reading.proofs.inner.fill.Given as goal

abbrev pub invariant-loop-i : goal.invariant-loop-i
invariant-loop-i l =
    (length l.replies ≡ length l.initial.replies)
    × (l.replies ≡ over reply_code (replies_to (raw l.index l.log l.snapshot) (take l.i l.keys)) l.initial.replies)
