-- A timeout, from what each of its steps gives: the refusals, and the state after it.
use Rattle.words.proofs.Prelude.{arith, ◌≡◌, refl, sym, ap, ap₂, ◌∙◌, ℕ, ◌+◌, ◌≤◌, ◌<◌, Bool, true, false, ◌&&◌, ◌||◌}
use Rattle.words.proofs.Prelude.{eqb, eqb-false, if◌then◌else◌, length}
use Rattle.words.proofs.Tests.{or_right}
use Rattle.entry.specs.Limits.{most_outgoing, last_round}
use Rattle.entry.specs.Guards.{passes, refuses, first, replied}
use Rattle.entry.specs.declared.Ballot.{Ballot}
use Rattle.entry.proofs.GuardLaws.{found, stopping, passing, clear_all}
use Rattle.ballot_leader_election.specs.declared.BallotLeaderElection.{BallotLeaderElection}
use Rattle.std.specs.Prelude.{Option}
use Rattle.ballot_leader_election.specs.declared.steps.Standing.{Standing}
use Rattle.ballot_leader_election.specs.State.{peers_in, replies_in, standing_in, election_of, laid_election}
use Rattle.ballot_leader_election.specs.Steps.{update_leader, update_happiness, takeover_due, taken_over, check_takeover}
use Rattle.ballot_leader_election.specs.Steps.{promised, leading, new_round, with_standing, timed_out}
use Rattle.ballot_leader_election.specs.Calls.{round_spent, takeover_spent, round_guards, timeout_guards}
use Rattle.ballot_leader_election.specs.Run.{outcome, ballot_is}
use Rattle.ballot_leader_election.specs.Inner.{Formed, Begins, with_standing as standing_with}
use Rattle.ballot_leader_election.proofs.Laying.{held_length}
use Rattle.ballot_leader_election.proofs.Verdicts.{round_short, round_room}

-- a new round alone
module _ (e : BallotLeaderElection) (f : Formed e) where
  pub begin_short : most_outgoing < e.outgoing.count + e.peers.count
      → refuses 18 0 ≡ first (round_guards (election_of e))
  begin_short h = found (stopping (round_short e f h) refl)

  module _ (room : e.outgoing.count + e.peers.count ≤ most_outgoing) where
    pub begin_spent : round_spent (election_of e) ≡ true → refuses 19 0 ≡ first (round_guards (election_of e))
    begin_spent h = found (passing (round_room e f room) (stopping h refl))

    pub begin_stands : round_spent (election_of e) ≡ false → passes ≡ first (round_guards (election_of e))
    begin_stands h = found (passing (round_room e f room) (passing h clear_all))

    pub begins : e.hb_round ≤ last_round → round_spent (election_of e) ≡ false → Begins e
    begins fits h = record {
      formed = f;
      room = room;
      round = omega (arith, fits, eqb-false e.hb_round last_round h);
    }

-- where no number is spent, a takeover that is due has one more
pub due_room : (r n : ℕ) (due : Bool) → n ≤ last_round
    → (eqb r last_round || (due && eqb n last_round)) ≡ false → due ≡ true → n < last_round
due_room r n due fits h d =
    let k : (due && eqb n last_round) ≡ false = or_right (eqb r last_round) _ h in
    omega (arith, fits, eqb-false n last_round (ap (λ (b : Bool). b && eqb n last_round) (sym d) ∙ k))

-- the steps of a timeout, as the code takes them
module _ (e : BallotLeaderElection) (f : Formed e) (p : Ballot) (u j : Standing) (due : Bool)
    (eu : u ≡ update_leader (replies_in e.heartbeat_replies) (standing_in e))
    (ej : j ≡ update_happiness e.peers.count (replies_in e.heartbeat_replies) u)
    (ed : due ≡ takeover_due e.peers.count (replies_in e.heartbeat_replies) j)
  where
    abbrev peers : ℕ
    peers = length (peers_in e.peers)

    abbrev judged : Standing
    judged =
        update_happiness peers (replies_in e.heartbeat_replies)
        (update_leader (replies_in e.heartbeat_replies) (standing_in e))

    count_is : e.peers.count ≡ peers
    count_is = sym (held_length f.peers)

    judged_is : j ≡ judged
    judged_is = ej ∙ ap₂ (λ (n : ℕ) (s : Standing). update_happiness n (replies_in e.heartbeat_replies) s) count_is eu

    due_is : due ≡ takeover_due peers (replies_in e.heartbeat_replies) judged
    due_is = ed ∙ ap₂ (λ (n : ℕ) (s : Standing). takeover_due n (replies_in e.heartbeat_replies) s) count_is judged_is

    pub spent_is : (eqb e.hb_round last_round || (due && eqb j.leader.n last_round))
        ≡ (round_spent (election_of e) || takeover_spent (election_of e))
    spent_is =
        ap₂ (λ (b : Bool) (s : Standing). eqb e.hb_round last_round || (b && eqb s.leader.n last_round)) due_is judged_is

    module _ (v : Bool) (ev : v ≡ (eqb e.hb_round last_round || (due && eqb j.leader.n last_round))) where
      pub timeout_short : most_outgoing < e.outgoing.count + e.peers.count
          → refuses 18 0 ≡ first (timeout_guards (election_of e))
      timeout_short h = found (stopping (round_short e f h) refl)

      pub timeout_spent : e.outgoing.count + e.peers.count ≤ most_outgoing → v ≡ true
          → refuses 19 0 ≡ first (timeout_guards (election_of e))
      timeout_spent room h = found (passing (round_room e f room) (stopping (sym spent_is ∙ sym ev ∙ h) refl))

      pub timeout_stands : e.outgoing.count + e.peers.count ≤ most_outgoing → v ≡ false
          → passes ≡ first (timeout_guards (election_of e))
      timeout_stands room h = found (passing (round_room e f room) (passing (sym spent_is ∙ sym ev ∙ h) clear_all))

    -- and what it leaves
    module _ (t s : Standing) (et : t ≡ (if due then taken_over j else j)) (es : s ≡ promised e.pid p t) where
      taken_is : t ≡ check_takeover peers (replies_in e.heartbeat_replies) judged
      taken_is = et ∙ ap₂ (λ (b : Bool) (x : Standing). if b then taken_over x else x) due_is judged_is

      stands_is : s ≡ (timed_out p (election_of e)).standing
      stands_is = es ∙ ap (promised e.pid p) taken_is

      pub timed_out_lem : (l : Option Ballot) (b x : BallotLeaderElection) → ballot_is l ≡ leading s
          → b ≡ laid_election (new_round (election_of e)) → x ≡ standing_with s b
          → outcome (replied (ballot_is l)) x
          ≡ outcome (replied (leading (timed_out p (election_of e)).standing)) (laid_election (timed_out p (election_of e)))
      timed_out_lem l b x el eb ex =
          ap₂ outcome (ap replied (el ∙ ap leading stands_is))
          (ex ∙ ap (standing_with s) eb
          ∙ ap (λ (z : Standing). laid_election (with_standing z (new_round (election_of e)))) stands_is)
