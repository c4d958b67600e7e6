-- `ballot_leader_election::rounds::send_requests` meets its contract: those sent so far are the requests to the peers passed.
use Rattle.words.proofs.Prelude.{◌≡◌}
use Rattle.ballot_leader_election.specs.{State.laid_messages}
use Rattle.ballot_leader_election.proofs.Laying.{requested}
use Rattle.ballot_leader_election.proofs.rounds.send_requests.Given as goal

abbrev pub invariant-loop-to : goal.invariant-loop-to
invariant-loop-to l = l.outgoing ≡ laid_messages (requested l.fn.peers l.fn.outgoing l.from l.round l.to-index)
