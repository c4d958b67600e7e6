-- Ballots: "order compares n, priority, pid; equality also compares config_id".
use Rattle.std.specs.Prelude.{Bool, ◌&&◌, eqb}
use Rattle.std.specs.declared.cmp.Ordering.{Ordering}
use Rattle.std.specs.Ordering.{nat_cmp, ordering_then}
use Rattle.entry.specs.declared.Ballot.{Ballot}

-- the first of the three that differs decides
abbrev pub ballot_order : Ballot → Ballot → Ordering
ballot_order a b =
    ordering_then (ordering_then (nat_cmp a.n b.n) (nat_cmp a.priority b.priority)) (nat_cmp a.pid b.pid)

abbrev pub same_ballot : Ballot → Ballot → Bool
same_ballot a b =
    eqb a.config_id b.config_id
    && (eqb a.n b.n && (eqb a.priority b.priority && eqb a.pid b.pid))

-- `Ballot::default()`
abbrev pub no_ballot : Ballot
no_ballot = record { config_id = 0; n = 0; priority = 0; pid = 0 }
