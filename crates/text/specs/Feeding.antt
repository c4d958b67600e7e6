-- Lines that come in parts, and answers that wait to be written.
use Rattle.std.specs.Prelude.{ℕ, ◌+◌, Bool, true, false, List, ◌++◌, leb, length, take, if◌then◌else◌}
use Rattle.std.proofs.Math.Option.{Option, none, some}

-- the bytes of a line that have come, or none where they are more than its buffer holds
abbrev pub come : Bool → ℕ → List ℕ → Option (List ℕ)
come true len line = none
come false len line = some (take len line)

-- a line as a buffer of so many bytes keeps it
abbrev pub fitting : ℕ → List ℕ → Option (List ℕ)
fitting room bs = if leb (length bs) room then some bs else none

-- with one more part, in a buffer of so many bytes
abbrev pub joined : ℕ → Option (List ℕ) → List ℕ → Option (List ℕ)
joined room none part = none
joined room (some bs) part = if leb (length bs + length part) room then some (bs ++ part) else none

-- where the next answer is put: after those that wait, unless it might not fit; then these are written first
abbrev pub next_at : ℕ → ℕ → ℕ
next_at last used = if leb used last then used else 0
