-- One ballot above another: by n, by priority where n is equal, by pid where both are. It goes on from ballot to ballot.
use Rattle.words.proofs.Prelude.{arith, ◌≡◌, sym, ◌∙◌, ℕ, ◌≤◌, ◌<◌, true, false, true≢false, lt-ltb, le-ltb, eq-eqb, ne_eqb}
use Rattle.words.proofs.Tests.{Stand, below, same, stand, above as greater}
use Rattle.std.specs.Ordering.{nat_cmp}
use Rattle.std.specs.declared.cmp.Ordering.TheVariants.{Less, Equal, Greater}
use Rattle.entry.specs.declared.Ballot.{Ballot}
use Rattle.ballot_leader_election.specs.Steps.{above}

pub data Over (a b : Ballot) : Type 0 where
  by_number : b.n < a.n → Over a b
  by_priority : a.n ≡ b.n → b.priority < a.priority → Over a b
  by_pid : a.n ≡ b.n → a.priority ≡ b.priority → b.pid < a.pid → Over a b

compare_less : (a b : ℕ) → a < b → nat_cmp a b ≡ Less
compare_less a b h = simp (lt-ltb a b h)

compare_same : (a b : ℕ) → a ≡ b → nat_cmp a b ≡ Equal
compare_same a b h = simp (le-ltb a b (omega (arith, h)), eq-eqb a b h)

compare_more : (a b : ℕ) → b < a → nat_cmp a b ≡ Greater
compare_more a b h = simp (le-ltb a b (omega (arith, h)), ne_eqb a b (λ e. omega (arith, e, h)))

module _ (a b : Ballot) where
  -- the greater of two is above the other
  pub over_above : Over a b → above a b ≡ true
  unfolding above
  over_above (by_number h) = simp (compare_more a.n b.n h)
  over_above (by_priority e h) = simp (compare_same a.n b.n e, compare_more a.priority b.priority h)
  over_above (by_pid e f h) =
      simp (compare_same a.n b.n e, compare_same a.priority b.priority f, compare_more a.pid b.pid h)

  no_more : false ≡ true → Over a b
  no_more z = absurd (true≢false (sym z))

  last : above a b ≡ true → a.n ≡ b.n → a.priority ≡ b.priority → Stand a.pid b.pid → Over a b
  unfolding above
  last t e f (below h) =
      no_more (simp (compare_same a.n b.n e, compare_same a.priority b.priority f, compare_less a.pid b.pid h) at t)
  last t e f (same h) =
      no_more (simp (compare_same a.n b.n e, compare_same a.priority b.priority f, compare_same a.pid b.pid h) at t)
  last t e f (greater h) = by_pid e f h

  middle : above a b ≡ true → a.n ≡ b.n → Stand a.priority b.priority → Over a b
  unfolding above
  middle t e (below h) =
      no_more (simp (compare_same a.n b.n e, compare_less a.priority b.priority h) at t)
  middle t e (same h) = last t e h (stand a.pid b.pid)
  middle t e (greater h) = by_priority e h

  first : above a b ≡ true → Stand a.n b.n → Over a b
  unfolding above
  first t (below h) = no_more (simp (compare_less a.n b.n h) at t)
  first t (same h) = middle t h (stand a.priority b.priority)
  first t (greater h) = by_number h

  pub above_over : above a b ≡ true → Over a b
  above_over t = first t (stand a.n b.n)

  pub over_number : Over a b → b.n ≤ a.n
  over_number (by_number h) = omega (arith, h)
  over_number (by_priority e h) = omega (arith, e)
  over_number (by_pid e f h) = omega (arith, e)

pub over_trans : (a b c : Ballot) → Over a b → Over b c → Over a c
over_trans a b c (by_number h) o = by_number (omega (arith, h, over_number b c o))
over_trans a b c (by_priority e h) (by_number k) = by_number (omega (arith, e, k))
over_trans a b c (by_priority e h) (by_priority f k) = by_priority (e ∙ f) (omega (arith, h, k))
over_trans a b c (by_priority e h) (by_pid f g k) = by_priority (e ∙ f) (omega (arith, h, g))
over_trans a b c (by_pid e g h) (by_number k) = by_number (omega (arith, e, k))
over_trans a b c (by_pid e g h) (by_priority f k) = by_priority (e ∙ f) (omega (arith, g, k))
over_trans a b c (by_pid e g h) (by_pid f i k) = by_pid (e ∙ f) (g ∙ i) (omega (arith, h, k))
