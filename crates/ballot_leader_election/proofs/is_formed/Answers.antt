-- `ballot_leader_election::is_formed` meets its contract: its tests joined.
use Rattle.words.proofs.Prelude.{arith, ◌≡◌, length}
use Rattle.entry.specs.Limits.{most_peers, most_replies, most_outgoing}
use Rattle.ballot_leader_election.specs.State.{formed}
use Rattle.ballot_leader_election.proofs.Forming.{false_test}
use Rattle.ballot_leader_election.proofs.is_formed.Goals as goal

pub returns : goal.returns
unfolding formed
returns c =
    let e = c.args.e.now in
    let peers : length e.peers.held ≡ most_peers = omega arith in
    let replies : length e.heartbeat_replies.held ≡ most_replies = omega arith in
    let prev : length e.prev_replies.held ≡ most_replies = omega arith in
    let outgoing : length e.outgoing.held ≡ most_outgoing = omega arith in
    simp (
      c.list_formed-peers.ensures,
      c.list_formed-replies.ensures,
      c.list_formed-prev.ensures,
      c.list_formed-outgoing.ensures,
      c.no_reply-reply.ensures,
      c.no_message-message.ensures,
      false_test,
      peers,
      replies,
      prev,
      outgoing,
    )
