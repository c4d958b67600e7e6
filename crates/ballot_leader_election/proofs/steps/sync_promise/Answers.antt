-- `ballot_leader_election::steps::sync_promise` meets its contract: by whether the promise is above the leader, and of whose pid it is.
use Rattle.std.proofs.Common.{rules}
use Rattle.ballot_leader_election.specs.Steps.{promised}
use Rattle.ballot_leader_election.proofs.steps.sync_promise.Goals as goal

pub returns-then-not-above : goal.returns-then-not-above
unfolding promised
returns-then-not-above c = search rules

pub returns-then-promise-pid : goal.returns-then-promise-pid
unfolding promised
returns-then-promise-pid c = search rules

pub returns-else-promise-pid : goal.returns-else-promise-pid
unfolding promised
returns-else-promise-pid c = search rules
