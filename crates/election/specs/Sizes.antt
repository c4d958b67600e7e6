-- How many nodes a cluster may have, how long a line may be that is no bad line, and how long a part of the input;
-- src/ has the sizes as constants.
use Rattle.std.specs.Prelude.{ℕ, ◌+◌, ◌*◌}
use Rattle.entry.specs.Limits.{most_peers}
use Rattle.text.specs.Rooms.{most_digits}

abbrev pub most_nodes : ℕ
most_nodes = most_peers + 1

abbrev pub longest : ℕ
longest = 8 + most_nodes * (1 + most_digits)

abbrev pub chunk_room : ℕ
chunk_room = 4096
