-- `records::inner::put_bytes` meets its contract: the part that is copied over, put back.
use Rattle.words.proofs.Prelude.{arith, ◌≡◌, sym, ap, ◌∙◌, ℕ, ◌+◌, ◌-◌, List, length}
use Rattle.records.proofs.SealedLaws.{packed_singles}
use Rattle.records.proofs.Loops.{bytes_of}
use Rattle.words.specs.Words.{spliced}
use Rattle.records.proofs.Splices.{splice_part}
use Rattle.records.proofs.inner.put_bytes.Goals as goal

pub returns : goal.returns
returns c =
    let n : ℕ = length c.args.bytes.now in
    let e : c.args.at + n - c.args.at ≡ n = omega arith in
    splice_part c.args.s.now c.copy_from_slice.new.self c.args.at (c.args.at + n - c.args.at) n e
    ∙ ap (λ (l : List ℕ). spliced c.args.at n l c.args.s.now)
    (c.copy_from_slice.ensures.after
    ∙ sym (packed_singles c.args.bytes.now (bytes_of c.args.bytes.now c.type_inv.bytes)))
