-- `backend::inner::request::request_formed` meets its contract: over eight operations, or all tests joined.
use Rattle.words.proofs.Prelude.{arith, ◌≡◌, length}
use Rattle.entry.specs.Limits.{most_ops}
use Rattle.backend.proofs.Requests.{too_many, request_is}
use Rattle.backend.proofs.inner.request.request_formed.Goals as goal

pub returns-then-count-gt-OPERATIONS : goal.returns-then-count-gt-OPERATIONS
returns-then-count-gt-OPERATIONS c =
    too_many c.args.lent c.args.entries.now c.args.incoming.now c.args.list c.if-count-gt-OPERATIONS.true

pub returns : goal.returns
returns c =
    let eight : length c.args.list.ops ≡ most_ops = omega arith in
    simp (
      c.all_supplied-ready.ensures,
      c.sign_formed-sign.ensures,
      c.incoming_formed-keys.ensures,
      c.entries_formed-fine.ensures,
    )
    (request_is c.args.lent c.args.entries.now c.args.incoming.now c.args.list c.if-count-gt-OPERATIONS.false eight)
