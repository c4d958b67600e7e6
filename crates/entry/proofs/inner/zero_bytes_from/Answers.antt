-- `entry::inner::zero_bytes_from` meets its contract: the `or` of the bytes is zero where all of them are.
use Rattle.words.proofs.Prelude.{rules, arith, ◌≡◌, refl, ◌∙◌, drop_of_length-le, length, drop}
use Rattle.std.proofs.Common.{bit_or, fold}
use Rattle.std.proofs.lemmas.Slice.{between_to_end}
use Rattle.std.proofs.iter.runs.Made.{chains}
use Rattle.words.specs.{All.all_of}
use Rattle.words.proofs.Alls.{zero_fold}
use Rattle.entry.proofs.inner.zero_bytes_from.Goals as goal

pub returns-in_default : goal.returns-in_default
unfolding all_of
returns-in_default c = rw (drop_of_length-le c.args.s.now {i = c.args.from} (grind arith)) refl

pub returns : goal.returns
returns c =
    let rest = c.in-Some.rest.now in
    let e : c.fold-all.result ≡ fold bit_or 0 rest = search (rules, chains) in
    let r : rest ≡ drop c.args.from c.args.s.now =
    c.in-Some.ensures.lookup.0.2
    ∙ between_to_end c.args.s.now c.args.from (length c.args.s.now) (omega arith) in
    rw (e, ← r) (zero_fold rest 0)
