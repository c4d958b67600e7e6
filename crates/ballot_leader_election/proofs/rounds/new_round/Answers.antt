-- `ballot_leader_election::rounds::new_round` meets its contract: each of its parts is laid out.
use Rattle.words.proofs.Prelude.{sym, ◌+◌, [], map, ◌++◌}
use Rattle.ballot_leader_election.specs.{State.peers_in, State.replies_in, State.messages_in, State.standing_in, Steps.request}
use Rattle.ballot_leader_election.proofs.Laying.{back_replies, laid_parts}
use Rattle.ballot_leader_election.proofs.rounds.new_round.Goals as goal

pub returns : goal.returns
returns c =
    let e = c.args.e.now in
    let f = c.requires.formed in
    let n = e.hb_round + 1 in
    laid_parts e f.peers n c.no_replies-e.result e.heartbeat_replies []
    (replies_in e.heartbeat_replies) (standing_in e) c.send_requests.new.outgoing
    (messages_in e.outgoing ++ map (request e.pid n) (peers_in e.peers))
    c.no_replies-e.ensures (sym (back_replies e.heartbeat_replies f.replies))
    c.send_requests.ensures

pub send_requests-requires : goal.send_requests-requires
send_requests-requires c =
    let p = c.requires in record { peers = p.formed.peers; outgoing = p.formed.outgoing; room = p.room }
