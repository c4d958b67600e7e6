-- `ballot_leader_election::steps::takeover_due` meets its contract: its tests joined.
use Rattle.std.proofs.Common.{inl, inr}
use Rattle.words.proofs.Prelude.{sym, ◌∙◌}
use Rattle.ballot_leader_election.specs.Steps.{takeover_due}
use Rattle.ballot_leader_election.proofs.steps.takeover_due.Goals as goal

pub returns-then-s : goal.returns-then-s
unfolding takeover_due
returns-then-s c = elim c.then-s.either [
  | inl h ↦ simp h
  | inr h ↦ simp (h.0, sym c.any_happy-happy.ensures ∙ h.1)
]

pub returns : goal.returns
unfolding takeover_due
returns c = simp (c.if-s.false, sym c.any_happy-happy.ensures ∙ c.if-happy.false, c.is_quorum.ensures)
