-- `ballot_leader_election::seen::above` meets its contract: by the order of ballots.
use Rattle.std.proofs.Common.{rules}
use Rattle.ballot_leader_election.specs.Steps.{above}
use Rattle.ballot_leader_election.proofs.seen.above.Goals as goal

pub returns : goal.returns
unfolding above
returns c = search rules
