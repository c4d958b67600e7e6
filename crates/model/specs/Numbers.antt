-- "The log and its numbers": the numbers of a state, what they come to, and when they are well formed.
use Rattle.std.specs.Prelude.{ℕ, ◌+◌, ◌-◌, Bool, ◌&&◌, ◌||◌, not, ltb, leb, eqb, if◌then◌else◌}
use Rattle.entry.specs.Limits.{entry_room, last_index, largest_batch}

-- entries are counted here, and a stop-sign is held or not
pub record Numbers : Type 0 where
  pub compacted : ℕ
  pub decided : ℕ
  pub retained : ℕ
  pub batched : ℕ
  pub size : ℕ
  pub stop : Bool

-- "end = compacted + retained"
unfoldable pub end_of : Numbers → ℕ
end_of n = n.compacted + n.retained

-- "Accepted = end, plus 1 if a stop-sign is held"
unfoldable pub accepted_of : Numbers → ℕ
accepted_of n = end_of n + (if n.stop then 1 else 0)

-- "It is decided if held and decided = accepted"
unfoldable pub stop_decided : Numbers → Bool
stop_decided n = n.stop && eqb n.decided (accepted_of n)

-- "log-decided is then decided - 1, else decided"
unfoldable pub log_decided : Numbers → ℕ
log_decided n = if stop_decided n then n.decided - 1 else n.decided

-- "compacted ≤ log-decided ≤ end; decided ≤ accepted; accepted + batched ≤ 4,294,967,295; batched is 0 or below the
-- batch size; batched 0 if a stop-sign is held"; "batch size 0 to 64"; "1,024 entries, retained first, then batched"
unfoldable pub numbers_formed : Numbers → Bool
numbers_formed n =
    leb n.compacted (log_decided n)
    && (leb (log_decided n) (end_of n)
    && (leb n.decided (accepted_of n)
    && (leb (accepted_of n + n.batched) last_index
    && ((eqb n.batched 0 || ltb n.batched n.size)
    && ((not n.stop || eqb n.batched 0)
    && (leb n.size largest_batch && leb (n.retained + n.batched) entry_room))))))
