-- What a call of the election says, as the host sees it, beside the state after it or what it hands out.
use Rattle.std.proofs.Math.Option.{Option, none, some}
use Rattle.entry.specs.Guards.{Answer, refused, replied}
use Rattle.entry.specs.Order.{no_ballot}
use Rattle.entry.specs.declared.Ballot.{Ballot}
use Rattle.std.specs.Prelude.{[]}
use Rattle.ballot_leader_election.specs.Run.{Outcome}
use Rattle.ballot_leader_election.specs.State.{laid_replies, laid_messages}
use Rattle.ballot_leader_election.specs.declared.Outgoing.{Outgoing}
use Rattle.ballot_leader_election.specs.declared.Replies.{Replies}
use Rattle.host.specs.declared.Said.{Said}
use Rattle.host.specs.declared.ElectionReply.{ElectionReply}
use Rattle.host.specs.declared.ElectionTaken.{ElectionTaken}
use Rattle.host.specs.declared.ElectionBallot.{ElectionBallot}
use Rattle.host.specs.declared.ElectionBallots.{ElectionBallots}
use Rattle.host.specs.Plain.{tells, plain, nothing}

-- 0: the node does not lead; 1: it does, by the ballot that the state after the call has
abbrev pub a_lead : Option Ballot → Said
a_lead none = tells 0 0 0
a_lead (some b) = tells 1 0 0

abbrev pub election_as : {A : Type 0} → (A → Said) → Outcome A → ElectionReply
election_as f o = record { said = plain f o.answer; election = o.after }

-- what is handed out, none of it where the call is refused
abbrev pub list_or : {L : Type 0} → L → Answer L → L
list_or none_of (replied l) = l
list_or none_of (refused n k) = none_of

abbrev pub hands : {L : Type 0} → L → Said
hands l = tells 0 0 0

abbrev pub taken_as : Outcome Outgoing → ElectionTaken
taken_as o = record { said = plain hands o.answer; outgoing = list_or (laid_messages []) o.answer; election = o.after }

abbrev pub ballots_as : Answer Replies → ElectionBallots
ballots_as a = record { said = plain hands a; replies = list_or (laid_replies []) a }

-- 1: the ballot; zeros where the call is refused
abbrev pub ballot_as : Answer Ballot → ElectionBallot
ballot_as (replied b) = record { said = tells 1 0 0; ballot = b }
ballot_as (refused n k) = record { said = plain nothing (refused n k); ballot = no_ballot }
