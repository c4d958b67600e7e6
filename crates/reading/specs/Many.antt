-- Many keys in one lookup: "a lent list of keys", and "a lent list of replies" that it fills.
use Rattle.std.specs.Prelude.{ℕ, ◌/◌, Bool, List, leb, length}
use Rattle.std.proofs.Math.Option.{Option}
use Rattle.words.specs.Coded.{over}
use Rattle.entry.specs.Limits.{reply_width}
use Rattle.entry.specs.Change.{Said}
use Rattle.entry.specs.Reply.{reply_code}
use Rattle.entry.specs.Guards.{Answer, refused, replied}

-- "11 for … fewer reply places than keys": whether there are enough
abbrev pub room_for : List ℕ → List ℕ → Bool
room_for keys out = leb (length keys) (length out / reply_width)

-- what the call comes to: its answer, and the reply words after it; "Later reply elements stay"
abbrev pub filled_out : Answer (List (Option Said)) → List ℕ → Answer (Unit {0}) × List ℕ
filled_out (replied replies) out = (replied tt, over reply_code replies out)
filled_out (refused n k) out = (refused n k, out)
