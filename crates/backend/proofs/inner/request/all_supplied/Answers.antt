-- `backend::inner::request::all_supplied` meets its contract: the test of each operation of the list.
use Rattle.words.proofs.Prelude.{rules, ◌∙◌, [], take}
use Rattle.std.proofs.lemmas.Iterator.{YieldsList-from_slice}
use Rattle.std.proofs.lemmas.Iterator.Search.{all_from_yields_List}
use borrow.Author.Tests.{tests}
use Rattle.model.specs.Backend.{supplied}
use Rattle.backend.specs.{declared.Op.Op, Ops.op_of, Ops.lent_of}
use Rattle.backend.proofs.Requests.{all_ops}
use Rattle.backend.proofs.inner.request.all_supplied.Goals as goal

pub returns : goal.returns
returns c =
    let ops = take c.args.list.count c.args.list.ops in
    let t = supplied (lent_of c.args.lent [] []) in
    let all = all_from_yields_List (λ (o : Op). t (op_of o)) _ _ c.all.result c.all.ensures.ran
    (YieldsList-from_slice ops cc) (λ x b q k. search (rules, tests)) in
    all ∙ all_ops t ops
