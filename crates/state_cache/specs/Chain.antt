-- "In demand 3 each call is given the state and the words that the one before left."
use Rattle.std.specs.Prelude.{Bool, true, false, List, [], ◌∷◌}
use Rattle.entry.specs.Change.{Change}
use Rattle.model.specs.Calls.{Call}
use Rattle.model.specs.History.{Event}
use Rattle.state_cache.specs.State.{Raw}
use Rattle.state_cache.specs.Run.{run}

-- a request as `run` takes it, and the list that its sync's snapshot stands for (of no account elsewhere)
pub record Asked : Type 0 where
  pub call : Call
  pub whole : Bool
  pub behind : List Change

unfoldable pub runs : List Asked → Raw → Raw
runs [] r = r
runs (a ∷ qs) r = runs qs (run a.call a.whole r).after

-- the same as the model has it: a request that is no call of the model changes nothing
abbrev pub events_of : Bool → Call → List Change → List Event → List Event
events_of true c x es = record { call = c; behind = x } ∷ es
events_of false c x es = es

unfoldable pub events : List Asked → List Event
events [] = []
events (a ∷ qs) = events_of a.whole a.call a.behind (events qs)
