-- "The entries are shown as a part of the lent log itself": that part, by its first entry and how many there are.
use Rattle.std.specs.Prelude.{ℕ, ◌+◌, ◌*◌, List, [], leb, length, take, drop, if◌then◌else◌}
use Rattle.entry.specs.Limits.{width}

-- the words of so many entries from the first-th on, none where they do not lie in the slice
unfoldable pub part : ℕ → ℕ → List ℕ → List ℕ
part first count ws =
    if leb ((first + count) * width) (length ws) then take (count * width) (drop (first * width) ws) else []

-- where they stand: a slice is a block of memory and an offset in it, of eight bytes a word; the empty part of those
-- that do not lie in the slice stands at its start
abbrev pub word_at : ℕ → ℕ × ℕ → ℕ × ℕ
word_at i p = (p.0, i * 8 + p.1)

unfoldable pub part_at : ℕ → ℕ → List ℕ → ℕ × ℕ → ℕ × ℕ
part_at first count ws p = if leb ((first + count) * width) (length ws) then word_at (first * width) p else p
