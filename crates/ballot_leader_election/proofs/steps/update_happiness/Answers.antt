-- `ballot_leader_election::steps::update_happiness` meets its contract: by whether the node takes itself for the leader.
use Rattle.words.proofs.Prelude.{sym, ◌∙◌}
use Rattle.ballot_leader_election.specs.Steps.{is_happy}
use Rattle.ballot_leader_election.proofs.steps.update_happiness.Goals as goal
use Rattle.ballot_leader_election.proofs.steps.update_happiness.Goals.{then-eq+then-formed, then-eq+else-formed, else-eq}

pub returns : goal.returns
unfolding is_happy
returns c = elim c.if-eq.branch [
  | then-eq+then-formed w ↦
      simp (
        w.happy-is,
        w.if-formed.true,
        sym c.eq.ensures ∙ w.if-eq.true,
        sym w.potential_followers.ensures,
        sym w.is_quorum-formed.ensures ∙ w.if-formed.true,
      )
  | then-eq+else-formed w ↦
      simp (
        w.happy-is,
        w.larger_happy-larger.ensures,
        sym c.eq.ensures ∙ w.if-eq.true,
        sym w.potential_followers.ensures,
        sym w.is_quorum-formed.ensures ∙ w.if-formed.false,
      )
  | else-eq w ↦ simp (w.happy-is, w.leader_happy-happy.ensures, sym c.eq.ensures ∙ w.if-eq.false)
]
