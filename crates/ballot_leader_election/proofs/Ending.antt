-- How a call ends: it is refused and the state is as it was, or it stands, none of its refusals applies, and the state
-- is what it makes of it.
use Rattle.words.proofs.Prelude.{arith, ◌≡◌, refl, sym, ap, ◌∙◌, ℕ, true, not, List, ◌∷◌}
use Rattle.words.proofs.Prelude.{not-false}
use Rattle.entry.specs.Guards.{Guard, guard, Verdict, passes, refuses, first, refused, replied}
use Rattle.entry.proofs.GuardLaws.{Passed, passed}
use Rattle.ballot_leader_election.specs.declared.BallotLeaderElection.{BallotLeaderElection}
use Rattle.ballot_leader_election.specs.State.{election_of, laid_election, formed}
use Rattle.ballot_leader_election.specs.Calls.{Call, Reply, guards, effect, reply_of}
use Rattle.ballot_leader_election.specs.Run.{Outcome, outcome, chosen, comes, run}

-- the whole list: 12 of any state, then the call's own
abbrev pub refusals : Call → BallotLeaderElection → List Guard
refusals c e = guard 12 0 (not (formed e)) ∷ guards c (election_of e)

pub data Ends (c : Call) (e : BallotLeaderElection) (o : Outcome (Reply c)) : Type 0 where
  stops : (n k : ℕ) → first (refusals c e) ≡ refuses n k → o ≡ outcome (refused n k) e → Ends c e o
  stands : formed e ≡ true → Passed (guards c (election_of e))
      → o ≡ outcome (replied (reply_of c (election_of e))) (laid_election (effect c (election_of e))) → Ends c e o

module _ (c : Call) (e : BallotLeaderElection) where
  by_verdict : (v : Verdict) → first (refusals c e) ≡ v
      → Ends c e (chosen v (reply_of c (election_of e)) (laid_election (effect c (election_of e))) e)
  by_verdict passes h =
      let p = passed (refusals c e) h in
      stands (not-false (formed e) p.0) p.1 refl
  by_verdict (refuses n k) h = stops n k h refl

  pub ends : Ends c e (run c e)
  unfolding run comes
  ends = by_verdict (first (refusals c e)) refl

  -- "a refused timeout changes nothing", nor does any other call that is refused
  pub refused_keeps : (n k : ℕ) → (run c e).answer ≡ refused n k → (run c e).after ≡ e
  refused_keeps n k h = go (run c e) ends h
    where
      go : (o : Outcome (Reply c)) → Ends c e o → o.answer ≡ refused n k → o.after ≡ e
      go o (stops m j v q) r = ap (λ (x : Outcome (Reply c)). x.after) q
      go o (stands f p q) r =
          let t : replied (reply_of c (election_of e)) ≡ refused n k = ap (λ (x : Outcome (Reply c)). x.answer) (sym q) ∙ r in
          let z : ◌≡◌ {A = ℕ} 0 1 = cc in absurd (omega arith)

  -- so a refusal says what the call comes to, whatever state is beside it
  pub refused_so : (n k : ℕ) (after : BallotLeaderElection) → outcome (refused n k) after ≡ run c e
      → outcome (refused n k) e ≡ run c e
  refused_so n k after h =
      ap (λ (x : BallotLeaderElection). outcome {A = Reply c} (refused n k) x)
      (sym (ap (λ (o : Outcome (Reply c)). o.after) h ∙ refused_keeps n k (ap (λ (o : Outcome (Reply c)). o.answer) (sym h))))
      ∙ h
