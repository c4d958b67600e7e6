-- `ballot_leader_election::rounds::start` meets its contract: by whether there is a recovered leader that is not the default ballot.
use Rattle.words.proofs.Prelude.{sym, ◌∙◌}
use Rattle.ballot_leader_election.specs.{Steps.starting_at}
use Rattle.ballot_leader_election.proofs.rounds.start.Goals as goal

pub returns-in_default : goal.returns-in_default
unfolding starting_at
returns-in_default c =
    rw c.in_default.is (simp c.with-mine.ensures)

pub returns-then-eq : goal.returns-then-eq
unfolding starting_at
returns-then-eq c =
    rw c.in-Some.is (simp (rw c.no_ballot.ensures at (sym c.eq.ensures ∙ c.if-eq.true), c.with-mine.ensures))

pub returns : goal.returns
unfolding starting_at
returns c =
    rw c.in-Some.is (simp (rw c.no_ballot.ensures at (sym c.eq.ensures ∙ c.if-eq.false), c.with-mine.ensures))
