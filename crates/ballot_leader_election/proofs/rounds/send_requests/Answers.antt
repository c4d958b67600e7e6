-- `ballot_leader_election::rounds::send_requests` meets its contract: those sent so far are the requests to the peers passed.
use Rattle.words.proofs.Prelude.{ap, ◌∙◌}
use Rattle.ballot_leader_election.specs.{declared.BLEMessage.BLEMessage}
use Rattle.ballot_leader_election.proofs.Laying.{sent_to, none_yet, room_left, request_sent, all_sent}
use Rattle.ballot_leader_election.proofs.rounds.send_requests.Goals as goal

pub loop-to-init : goal.loop-to-init
loop-to-init c = none_yet c.args.peers c.args.outgoing.now c.args.from c.args.round c.requires

pub push-requires : goal.push-requires
push-requires c =
    room_left c.args.peers c.args.outgoing.now c.args.from c.args.round c.requires c.loop-to.to-index c.loop-to.outgoing
    c.loop-to-test.true c.loop-to.invariant

pub loop-to-preserved : goal.loop-to-preserved
loop-to-preserved c =
    (λ t. record { count = c.push.ensures.counted t; held = c.push.ensures.kept t })
    ∙ ap (λ (m : BLEMessage). sent_to c.loop-to.outgoing m) c.request.ensures
    ∙ request_sent c.args.peers c.args.outgoing.now c.args.from c.args.round c.requires c.loop-to.to-index c.loop-to.outgoing
    c.loop-to-test.true c.loop-to.invariant

pub returns : goal.returns
returns c =
    all_sent c.args.peers c.args.outgoing.now c.args.from c.args.round c.requires c.loop-to.to-index c.loop-to.outgoing
    c.loop-to-test.false c.loop-to.invariant
