-- `keep::sync_beside` meets its contract: a directory's bytes end in a slash, and so does no part of a character.
use Rattle.words.proofs.Prelude.{arith, ◌≡◌, ◌+◌, ◌-◌, ◌<◌, length, get_or}
use Rattle.std.proofs.lemmas.Str.{IsCharBoundary-after_ascii}
use Rattle.keep.specs.Files.{slash}
use Rattle.keep.proofs.sync_beside.Goals as goal

pub range-requires-clause-end_boundary : goal.range-requires-clause-end_boundary
range-requires-clause-end_boundary g c =
    let path = c.args.path.now in
    let k = c.directory-n.result - 1 in
    let next : c.directory-n.result ≡ k + 1 = omega arith in
    let at : get_or path k 0 ≡ slash = rw c.as_bytes.ensures.value at (c.directory-n.ensures.at k next) in
    let inside : k < length path = omega arith in
    rw next (IsCharBoundary-after_ascii path k c.utf8.path inside (omega arith))
