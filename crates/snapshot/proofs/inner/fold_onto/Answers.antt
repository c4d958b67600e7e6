-- `snapshot::inner::fold_onto` meets its contract: the words hold the entries put so far.
use Rattle.words.proofs.Prelude.{arith, sym, ◌∙◌, length-drop, length-take, length}
use Rattle.entry.proofs.RefusalLaws.{passed_up}
use Rattle.entry.specs.Change.{entries_of}
use Rattle.snapshot.specs.Folds.{fold_onto}
use Rattle.snapshot.proofs.Putting.{sofar_start, sofar_holds, fold_turn, fold_refused, fold_done}
use Rattle.snapshot.proofs.inner.fold_onto.Goals as goal

pub loop-i-init : goal.loop-i-init
unfolding fold_onto
loop-i-init c =
    (omega arith, sofar_start c.args.kept c.args.s.now c.requires.0)

pub put-requires : goal.put-requires
put-requires c =
    (sofar_holds _ _ c.loop-i.s c.loop-i.keys c.loop-i.invariant.1, simp (length-take, length-drop) (omega arith))

pub returns-in_err-keys : goal.returns-in_err-keys
returns-in_err-keys c =
    rw (passed_up c.from_residual.result _ c.from_residual.ensures.1 ∙ sym c.in_err-keys.was)
    (fold_refused (length c.args.s.now) (entries_of c.args.kept c.args.s.now) c.args.n
    c.args.entries.now c.requires.1 c.loop-i.i c.loop-i.s c.loop-i.keys c.loop-i.invariant.1
    c.loop-i-test.true c.put.result c.put.new.s c.put.ensures _ c.in_err-keys.was)

pub loop-i-preserved : goal.loop-i-preserved
loop-i-preserved c =
    (omega arith, fold_turn (length c.args.s.now) (entries_of c.args.kept c.args.s.now) c.args.n c.args.entries.now c.requires.1 c.loop-i.i c.loop-i.s c.loop-i.keys c.loop-i.invariant.1 c.loop-i-test.true c.put.result c.put.new.s c.put.ensures _ c.in_ok-keys.was)

pub returns : goal.returns
returns c =
    fold_done (length c.args.s.now) (entries_of c.args.kept c.args.s.now) c.args.n
    c.args.entries.now c.requires.1 c.loop-i.i c.loop-i.s c.loop-i.keys c.loop-i.invariant.1
    c.loop-i-test.false
