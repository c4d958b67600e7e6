-- What a call comes to: of any state, its answer and the state after it. Every exported call is an equation with `run`,
-- and the one that makes a state with `with_call`.
use Rattle.std.specs.Prelude.{ℕ, ◌||◌, not, List, ◌∷◌, ltb, eqb, length, if◌then◌else◌, Result, Ok, Err}
use Rattle.std.specs.Prelude.{Option as Optional, Some, None}
use Rattle.std.proofs.Math.Option.{Option, none, some}
use Rattle.entry.specs.Limits.{most_peers}
use Rattle.entry.specs.Guards.{Guard, guard, Verdict, passes, refuses, first, Answer, refused, replied, refused_by, said_by}
use Rattle.entry.specs.declared.Refusal.{Refusal}
use Rattle.entry.specs.declared.Ballot.{Ballot}
use Rattle.ballot_leader_election.specs.declared.BLEConfig.{BLEConfig}
use Rattle.ballot_leader_election.specs.declared.BallotLeaderElection.{BallotLeaderElection}
use Rattle.ballot_leader_election.specs.State.{Election, election_of, laid_election, formed, no_election}
use Rattle.ballot_leader_election.specs.Steps.{new_round, initial}
use Rattle.ballot_leader_election.specs.Calls.{Call, Reply, guards, effect, reply_of}

pub record Outcome (A : Type 0) : Type 0 where
  pub answer : Answer A
  pub after : BallotLeaderElection

abbrev pub outcome : {A : Type 0} → Answer A → BallotLeaderElection → Outcome A
outcome a e = record { answer = a; after = e }

-- where a call is refused the state after it is the state before
abbrev pub chosen : {A : Type 0} → Verdict → A → BallotLeaderElection → BallotLeaderElection → Outcome A
chosen passes y next e = outcome (replied y) next
chosen (refuses n k) y next e = outcome (refused n k) e

-- by its refusals, its reply and the state after it
unfoldable pub comes : {A : Type 0} → List Guard → A → Election → BallotLeaderElection → Outcome A
comes gs y next e = chosen (first gs) y (laid_election next) e

unfoldable pub run : (c : Call) → BallotLeaderElection → Outcome (Reply c)
run c e =
    comes (guard 12 0 (not (formed e)) ∷ guards c (election_of e)) (reply_of c (election_of e)) (effect c (election_of e)) e

-- `with`: 11 for pid 0 or over 6 peers
unfoldable pub with_call : BLEConfig → List ℕ → Option Ballot → Outcome (Unit {0})
with_call c ps b =
    if eqb c.pid 0 || ltb most_peers (length ps) then outcome (refused 11 0) no_election
    else outcome (replied tt) (laid_election (new_round (initial c ps b)))

-- what the code's answers and requests say
abbrev pub ballot_is : Optional Ballot → Option Ballot
ballot_is None = none
ballot_is (Some b) = some b

abbrev pub told : {A : Type 0} → Result A Refusal → Answer A
told r = said_by (λ y. y) r

-- of a call that hands the state back, alone or with a reply beside it: where it is refused that stays as it was lent
abbrev pub changed : BallotLeaderElection → Result BallotLeaderElection Refusal → Outcome (Unit {0})
changed e (Ok next) = outcome (replied tt) next
changed e (Err r) = outcome (refused_by r) e

abbrev pub changed_at : {A B : Type 0} → (A → B) → BallotLeaderElection → Result (BallotLeaderElection × A) Refusal → Outcome B
changed_at f e (Ok (next, y)) = outcome (replied (f y)) next
changed_at f e (Err r) = outcome (refused_by r) e

-- a list that a call hands out, as the code lays it out
abbrev pub laid_by : {A L : Type 0} → (List A → L) → Answer (List A) → Answer L
laid_by lay (replied xs) = replied (lay xs)
laid_by lay (refused n k) = refused n k

abbrev pub handed_out : {A L : Type 0} → (List A → L) → Outcome (List A) → Outcome L
handed_out lay o = outcome (laid_by lay o.answer) o.after
