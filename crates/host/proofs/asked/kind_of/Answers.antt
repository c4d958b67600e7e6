use Rattle.words.proofs.Prelude.{arith, ◌≡◌, sym, ap, ne_eqb}
use Rattle.host.specs.Requests.{kind_at}
use Rattle.host.proofs.asked.kind_of.Goals as goal

pub returns-in-0 : goal.returns-in-0
unfolding kind_at
returns-in-0 c =
    sym (ap kind_at c.in-0.is)

pub returns-in-1 : goal.returns-in-1
unfolding kind_at
returns-in-1 c =
    sym (ap kind_at c.in-1.is)

pub returns-in-2 : goal.returns-in-2
unfolding kind_at
returns-in-2 c =
    sym (ap kind_at c.in-2.is)

pub returns-in-3 : goal.returns-in-3
unfolding kind_at
returns-in-3 c =
    sym (ap kind_at c.in-3.is)

pub returns-in-4 : goal.returns-in-4
unfolding kind_at
returns-in-4 c =
    sym (ap kind_at c.in-4.is)

pub returns-in-5 : goal.returns-in-5
unfolding kind_at
returns-in-5 c =
    sym (ap kind_at c.in-5.is)

pub returns-in-6 : goal.returns-in-6
unfolding kind_at
returns-in-6 c =
    sym (ap kind_at c.in-6.is)

pub returns-in-7 : goal.returns-in-7
unfolding kind_at
returns-in-7 c =
    sym (ap kind_at c.in-7.is)

pub returns-in_default : goal.returns-in_default
unfolding kind_at
returns-in_default c =
    let n = c.args.n in
    let h0 : n ≡ 0 → ⊥ = λ e. omega arith in
    let h1 : n ≡ 1 → ⊥ = λ e. omega arith in
    let h2 : n ≡ 2 → ⊥ = λ e. omega arith in
    let h3 : n ≡ 3 → ⊥ = λ e. omega arith in
    let h4 : n ≡ 4 → ⊥ = λ e. omega arith in
    let h5 : n ≡ 5 → ⊥ = λ e. omega arith in
    let h6 : n ≡ 6 → ⊥ = λ e. omega arith in
    let h7 : n ≡ 7 → ⊥ = λ e. omega arith in
    simp (ne_eqb n 0 h0, ne_eqb n 1 h1, ne_eqb n 2 h2, ne_eqb n 3 h3, ne_eqb n 4 h4, ne_eqb n 5 h5, ne_eqb n 6 h6, ne_eqb n 7 h7)
