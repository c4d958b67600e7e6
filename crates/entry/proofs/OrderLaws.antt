-- The derived equality of ballots is the one of specs/Order.antt.
use Rattle.words.proofs.Prelude.{◌≡◌, refl}
use Rattle.entry.specs.declared.Ballot.{Ballot}
use Rattle.entry.specs.Order.{same_ballot}
use Rattle.entry.specs.contracts.BallotPartialEq.TheImpl as derived

pub eq_ballot : (a b : Ballot) → derived.ghosts.eq a b ≡ same_ballot a b
eq_ballot a b = refl
