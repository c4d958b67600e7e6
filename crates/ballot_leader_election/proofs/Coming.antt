-- What a call comes to, by its refusals: 12 first, then those of the call, and where none applies its reply and the
-- state after it.
use Rattle.words.proofs.Prelude.{◌≡◌, sym, ap, ◌∙◌, ℕ, true, false, not, List, ◌∷◌}
use Rattle.std.specs.Prelude.{Result, Ok, Err}
use Rattle.std.specs.Result.{IsErrAnd}
use Rattle.entry.specs.Guards.{Guard, guard, Verdict, passes, refuses, first, refused, replied, refused_by}
use Rattle.entry.specs.declared.Refusal.{Refusal}
use Rattle.entry.specs.declared.Refusal.TheVariants.{IllFormed}
use Rattle.entry.proofs.GuardLaws.{first_refuses, first_goes_on}
use Rattle.ballot_leader_election.specs.declared.BallotLeaderElection.{BallotLeaderElection}
use Rattle.ballot_leader_election.specs.State.{Election, election_of, laid_election, formed}
use Rattle.ballot_leader_election.specs.Calls.{Call, guards, effect, reply_of}
use Rattle.ballot_leader_election.specs.Run.{outcome, chosen, comes, run}
use Rattle.ballot_leader_election.specs.Inner.{comes_formed}

-- what a `?` gives back
pub err_is : {A : Type 0} (r : Result A Refusal) (d : Refusal) → IsErrAnd r (λ (y : Refusal). y ≡ d) → r ≡ Err d
err_is (Ok x) d h = absurd h
err_is (Err y) d h = ap Err h

module _ {A : Type 0} (gs : List Guard) (y : A) (next : Election) (e : BallotLeaderElection) where
  pub comes_refused : (n k : ℕ) → refuses n k ≡ first gs → outcome (refused n k) e ≡ comes gs y next e
  unfolding comes
  comes_refused n k f = ap (λ (v : Verdict). chosen v y (laid_election next) e) f

  pub comes_stands : passes ≡ first gs → outcome (replied y) (laid_election next) ≡ comes gs y next e
  unfolding comes
  comes_stands f = ap (λ (v : Verdict). chosen v y (laid_election next) e) f

-- a call that tests the state first
module _ {A : Type 0} (gs : List Guard) (y : A) (next : Election) (e : BallotLeaderElection) where
  pub comes_ill : (r : Refusal) → (r ≡ IllFormed) × (formed e ≡ false) → outcome (refused_by r) e ≡ comes_formed gs y next e
  comes_ill r p =
      ap (λ (q : Refusal). outcome (refused_by q) e) p.0
      ∙ comes_refused (guard 12 0 (not (formed e)) ∷ gs) y next e 12 0 (sym (first_refuses 12 0 (not (formed e)) gs (ap not p.1)))

  pub comes_well : formed e ≡ true → comes gs y next e ≡ comes_formed gs y next e
  unfolding comes
  comes_well f = ap (λ (v : Verdict). chosen v y (laid_election next) e) (sym (first_goes_on 12 0 (not (formed e)) gs (ap not f)))

module _ (c : Call) (e : BallotLeaderElection) where
  pub ill_formed : formed e ≡ false → outcome (refused 12 0) e ≡ run c e
  unfolding run
  ill_formed f =
      comes_refused _ (reply_of c (election_of e)) (effect c (election_of e)) e 12 0
      (sym (first_refuses 12 0 (not (formed e)) (guards c (election_of e)) (ap not f)))

  pub refuses_ill_formed : (r : Refusal) → (r ≡ IllFormed) × (formed e ≡ false) → outcome (refused_by r) e ≡ run c e
  refuses_ill_formed r p = ap (λ (q : Refusal). outcome (refused_by q) e) p.0 ∙ ill_formed p.1

  pub well_formed_lem : formed e ≡ true
      → comes (guards c (election_of e)) (reply_of c (election_of e)) (effect c (election_of e)) e ≡ run c e
  unfolding run
  well_formed_lem = comes_well (guards c (election_of e)) (reply_of c (election_of e)) (effect c (election_of e)) e

  pub stands : formed e ≡ true → passes ≡ first (guards c (election_of e))
      → outcome (replied (reply_of c (election_of e))) (laid_election (effect c (election_of e))) ≡ run c e
  stands f h =
      comes_stands (guards c (election_of e)) (reply_of c (election_of e)) (effect c (election_of e)) e h ∙ well_formed_lem f
