-- `ballot_leader_election::forms::list_formed` meets its contract: its tests joined.
use Rattle.words.proofs.Prelude.{refl, le-leb, lt-leb, eq-eqb}
use Rattle.ballot_leader_election.specs.State.{list_formed}
use Rattle.ballot_leader_election.proofs.forms.list_formed.Goals as goal

pub returns-then-count-held : goal.returns-then-count-held
unfolding list_formed
returns-then-count-held g c = rw (eq-eqb _ _ refl, le-leb _ _ c.if-count-held.true) c.blank_from-rest.ensures

pub returns-else-count-held : goal.returns-else-count-held
unfolding list_formed
returns-else-count-held g c = rw (eq-eqb _ _ refl, lt-leb _ _ c.if-count-held.false) refl
