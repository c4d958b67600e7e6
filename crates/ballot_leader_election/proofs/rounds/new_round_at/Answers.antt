-- `ballot_leader_election::rounds::new_round_at` meets its contract: 18, then 19, else a new round.
use Rattle.words.proofs.Prelude.{arith, sym, ap, ◌∙◌, eq-eqb, ne_eqb}
use Rattle.entry.specs.Guards.{replied}
use Rattle.ballot_leader_election.specs.{declared.BallotLeaderElection.BallotLeaderElection, State.election_of, Steps.new_round, Calls.round_guards, Run.outcome}
use Rattle.ballot_leader_election.proofs.Coming.{comes_refused, comes_stands}
use Rattle.ballot_leader_election.proofs.Timing.{begin_short, begin_spent, begin_stands, begins}
use Rattle.ballot_leader_election.proofs.Forming.{formed_facts}
use Rattle.ballot_leader_election.specs.State.{formed}
use Rattle.ballot_leader_election.proofs.Coming.{err_is, comes_ill, comes_well}
use Rattle.ballot_leader_election.proofs.rounds.new_round_at.Goals as goal

pub returns-in_err-checked : goal.returns-in_err-checked
returns-in_err-checked c =
    rw (err_is c.from_residual.result _ c.from_residual.ensures.1)
    (comes_ill (round_guards (election_of c.args.e.now)) tt (new_round (election_of c.args.e.now)) c.args.e.now _ c.in_err-checked.ensures)

pub returns-then-e-gt-OUTGOING : goal.returns-then-e-gt-OUTGOING
returns-then-e-gt-OUTGOING c =
    let e = c.args.e.now in
    let h = ap formed (sym c.in_ok-checked.ensures) ∙ c.in_ok-checked.field-0.is_formed in
    let f = formed_facts e h in
    comes_refused (round_guards (election_of e)) tt (new_round (election_of e)) e 18 0
    (begin_short e f c.if-e-gt-OUTGOING.true)
    ∙ comes_well (round_guards (election_of e)) tt (new_round (election_of e)) e h

pub returns-then-e : goal.returns-then-e
returns-then-e c =
    let e = c.args.e.now in
    let h = ap formed (sym c.in_ok-checked.ensures) ∙ c.in_ok-checked.field-0.is_formed in
    let f = formed_facts e h in
    comes_refused (round_guards (election_of e)) tt (new_round (election_of e)) e 19 0
    (begin_spent e f c.if-e-gt-OUTGOING.false (eq-eqb _ _ c.if-e.true))
    ∙ comes_well (round_guards (election_of e)) tt (new_round (election_of e)) e h

pub returns : goal.returns
returns c =
    let e = c.args.e.now in
    let h = ap formed (sym c.in_ok-checked.ensures) ∙ c.in_ok-checked.field-0.is_formed in
    let f = formed_facts e h in
    ap (λ (x : BallotLeaderElection). outcome (replied tt) x) c.new_round.ensures
    ∙ comes_stands (round_guards (election_of e)) tt (new_round (election_of e)) e
    (begin_stands e f c.if-e-gt-OUTGOING.false (ne_eqb _ _ c.if-e.false))
    ∙ comes_well (round_guards (election_of e)) tt (new_round (election_of e)) e h

pub overflow_add-e : goal.overflow_add-e
overflow_add-e c =
    let f = formed_facts _ (ap formed (sym c.in_ok-checked.ensures) ∙ c.in_ok-checked.field-0.is_formed) in
    omega (arith, f.outgoing.few, f.peers.few)

pub new_round-requires : goal.new_round-requires
new_round-requires c =
    let f = formed_facts _ (ap formed (sym c.in_ok-checked.ensures) ∙ c.in_ok-checked.field-0.is_formed) in
    begins c.args.e.now f c.if-e-gt-OUTGOING.false (omega arith) (ne_eqb _ _ c.if-e.false)
