-- `ballot_leader_election::with` meets its contract: 11, else a round begun.
use Rattle.words.proofs.Prelude.{ap, ◌∙◌, le-ltb, lt-ltb, eq-eqb, ne_eqb}
use Rattle.std.proofs.Common.{inl, inr}
use Rattle.entry.specs.Guards.{replied}
use Rattle.ballot_leader_election.specs.{declared.BallotLeaderElection.BallotLeaderElection, State.Election, State.election_of, State.laid_election, Steps.new_round}
use Rattle.ballot_leader_election.specs.{Steps.initial, Run.ballot_is, Run.with_call, Run.outcome}
use Rattle.ballot_leader_election.proofs.{Laying.model_back, Keeping.initial_begins}
use Rattle.ballot_leader_election.proofs.with.Goals as goal

pub returns-then-config-eq-NO_PID : goal.returns-then-config-eq-NO_PID
unfolding with_call
returns-then-config-eq-NO_PID c = elim c.then-config-eq-NO_PID.either [
  | inl h ↦ simp (eq-eqb _ _ h)
  | inr h ↦ simp (ne_eqb _ _ h.0, lt-ltb _ _ h.1)
]

pub new_round-requires : goal.new_round-requires
new_round-requires c =
    rw c.initial-start.ensures
    (initial_begins c.args.config c.args.peers.now (ballot_is c.args.recovered) c.if-config-eq-NO_PID.false c.if-peers-gt-PEERS.false)

pub returns : goal.returns
unfolding with_call
returns c =
    let x = initial c.args.config c.args.peers.now (ballot_is c.args.recovered) in
    rw (ne_eqb _ _ c.if-config-eq-NO_PID.false, le-ltb _ _ c.if-peers-gt-PEERS.false)
    (ap (λ (e : BallotLeaderElection). outcome (replied tt) e)
    (c.new_round.ensures ∙ ap (λ (e : BallotLeaderElection). laid_election (new_round (election_of e))) c.initial-start.ensures
    ∙ ap (λ (y : Election). laid_election (new_round y)) (model_back x)))
