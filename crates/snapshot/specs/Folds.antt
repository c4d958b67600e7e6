-- Snapshots: document 01, module 2. Nothing here speaks of words or slices.
use Rattle.std.specs.Prelude.{ℕ, Bool, true, ◌&&◌, List, [], ◌∷◌, ltb, leb, eqb, length, if◌then◌else◌}
use Rattle.std.proofs.Math.Option.{Option, none, some, or_else}
use Rattle.entry.specs.Change.{Said, Change}

-- a change put at its key: in the place of an equal one, else before the first larger one
unfoldable pub insert : Change → List Change → List Change
insert c [] = c ∷ []
insert c (d ∷ s) =
    if ltb c.key d.key then c ∷ d ∷ s
    else if eqb c.key d.key then c ∷ s
    else d ∷ insert c s

-- a run put onto a snapshot, change by change: "the last entry for a key wins; removals are kept as removals"
unfoldable pub fold_onto : List Change → List Change → List Change
fold_onto s [] = s
fold_onto s (c ∷ r) = fold_onto (insert c s) r

unfoldable pub fold : List Change → List Change
fold r = fold_onto [] r

-- "the second's word wins"
unfoldable pub merge : List Change → List Change → List Change
merge a b = fold_onto a b

-- keys "strictly ascending as numbers"; the same, and the first above k
unfoldable pub climbs : ℕ → List Change → Bool
climbs k [] = true
climbs k (d ∷ s) = ltb k d.key && climbs d.key s

unfoldable pub rising : List Change → Bool
rising [] = true
rising (d ∷ s) = climbs d.key s

-- "a search that stops at the first key not below the one asked for": what is said of the key, none where nothing is
unfoldable pub find : ℕ → List Change → Option Said
find k [] = none
find k (d ∷ s) =
    if ltb d.key k then find k s
    else if eqb d.key k then some d.said
    else none

-- what the last entry of a run for a key says, none if it has none
unfoldable pub last_of : ℕ → List Change → Option Said
last_of k [] = none
last_of k (c ∷ r) = or_else (last_of k r) (if eqb c.key k then some c.said else none)

-- a snapshot in so much room, none where it has more keys: refusal 8 for any capacity
unfoldable pub within : ℕ → List Change → Option (List Change)
within room s = if leb (length s) room then some s else none
