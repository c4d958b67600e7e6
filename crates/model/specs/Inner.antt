-- What the inner functions of the crates above require: well-formed numbers as facts, each with its name.
use Rattle.std.specs.Prelude.{◌+◌, ◌-◌, ◌≤◌, ◌≡◌, true}
use Rattle.entry.specs.Limits.{entry_room, last_index, largest_batch}
use Rattle.model.specs.Numbers.{Numbers, accepted_of}

pub record Sound (n : Numbers) : Type 0 where
  pub low : n.compacted ≤ n.decided
  pub high : n.decided ≤ accepted_of n
  pub inside : accepted_of n + n.batched ≤ last_index
  pub small : n.batched ≤ n.size - 1
  pub quiet : n.stop ≡ true → n.batched ≡ 0
  pub sized : n.size ≤ largest_batch
  pub room : n.retained + n.batched ≤ entry_room
