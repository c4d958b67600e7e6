-- `ballot_leader_election::handle` meets its contract: as the request or the reply that it is.
use Rattle.words.proofs.Prelude.{sym, ap, ◌∙◌, Bool, if◌then◌else◌}
use Rattle.ballot_leader_election.specs.{declared.BLEMessage.BLEMessage, declared.BallotLeaderElection.BallotLeaderElection, State.election_of, Inner.comes_formed}
use Rattle.ballot_leader_election.specs.{Steps.requested, Steps.replying, Calls.handle, Calls.request_guards, Calls.reply_guards, Run.Outcome, Run.run}
use Rattle.ballot_leader_election.proofs.{Coming.err_is, Ending.refused_so}
use Rattle.ballot_leader_election.proofs.handle.Goals as goal

-- what a message comes to, by whether it is a reply
by_reply : BallotLeaderElection → BLEMessage → Bool → Outcome (Unit {0})
by_reply e m b =
    comes_formed (if b then reply_guards m.reply (election_of e) else request_guards (election_of e)) tt
    (if b then replying m.reply (election_of e) else requested m.from m.reply.round (election_of e)) e

pub returns-in_err-handle_reply : goal.returns-in_err-handle_reply
unfolding by_reply run
returns-in_err-handle_reply c =
    rw (err_is c.from_residual.result _ c.from_residual.ensures.1)
    (refused_so (handle c.args.m) c.args.e _ _ _
    (c.in_err-handle_reply.ensures ∙ ap (by_reply c.args.e c.args.m) (sym c.if-m.true)))

pub returns-in_ok-handle_reply : goal.returns-in_ok-handle_reply
unfolding by_reply run
returns-in_ok-handle_reply c =
    c.in_ok-handle_reply.ensures ∙ ap (by_reply c.args.e c.args.m) (sym c.if-m.true)

pub returns-in_err-handle_request : goal.returns-in_err-handle_request
unfolding by_reply run
returns-in_err-handle_request c =
    rw (err_is c.from_residual-in_err-handle_request.result _ c.from_residual-in_err-handle_request.ensures.1)
    (refused_so (handle c.args.m) c.args.e _ _ _
    (c.in_err-handle_request.ensures ∙ ap (by_reply c.args.e c.args.m) (sym c.if-m.false)))

pub returns-in_ok-handle_request : goal.returns-in_ok-handle_request
unfolding by_reply run
returns-in_ok-handle_request c =
    c.in_ok-handle_request.ensures ∙ ap (by_reply c.args.e c.args.m) (sym c.if-m.false)
