-- `ballot_leader_election::steps::is_quorum` meets its contract: half of the peers, rounded up, and the node are a majority.
use Rattle.words.proofs.Prelude.{arith, ◌≡◌, sym, ◌∙◌, ℕ, ◌+◌, ◌/◌, min, leb, le-leb, lt-leb}
use Rattle.std.proofs.Common.{◌%◌}
use Rattle.words.proofs.Tests.{Reach, reach, reached, short}
use Rattle.ballot_leader_election.specs.Steps.{quorum}
use Rattle.ballot_leader_election.proofs.steps.is_quorum.Goals as goal

halves : (p o d : ℕ) → d ≡ p / 2 + min 1 (p % 2) → leb d o ≡ leb ((p + 1) / 2 + 1) (o + 1)
halves p o d e = go (reach d o)
  where
    go : Reach d o → leb d o ≡ leb ((p + 1) / 2 + 1) (o + 1)
    go (reached h) = le-leb _ _ h ∙ sym (le-leb _ _ (omega (arith, e, h)))
    go (short h) = lt-leb _ _ h ∙ sym (lt-leb _ _ (omega (arith, e, h)))

pub returns : goal.returns
unfolding quorum
returns c = halves c.args.peers c.args.others c.div_ceil.result c.div_ceil.ensures
