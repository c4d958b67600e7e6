-- `ballot_leader_election::seen::potential_followers` meets its contract.
use Rattle.std.proofs.Common.{rules}
use Rattle.ballot_leader_election.specs.Steps.{potential_followers}
use Rattle.ballot_leader_election.proofs.seen.potential_followers.Goals as goal

pub returns : goal.returns
unfolding potential_followers
returns c = search rules
