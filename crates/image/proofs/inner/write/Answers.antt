-- `image::inner::write` meets its contract: the parts one behind the other.
use Rattle.words.proofs.Prelude.{rules}
use Rattle.words.proofs.Prelude.{arith, ◌≡◌, true, ap, ◌∙◌, ◌+◌, ◌*◌, ◌≤◌, length}
use Rattle.entry.specs.Limits.{most_nodes, most_metadata}
use Rattle.state_cache.specs.State.{raw, log_of}
use Rattle.image.specs.Typed.{sign_typed, Typed}
use Rattle.image.specs.Inner.{SignFormed, sign_size}
use Rattle.std.specs.Prelude.{IfSome}
use Rattle.std.specs.Bool.{then_some}
use Rattle.image.proofs.Types.{ballot_of, sign_of, typed_of}
use Rattle.words.specs.Words.{spliced}
use Rattle.records.specs.Sealed.{sealed}
use Rattle.image.specs.Layout.{head_size, change_size, head_fields}
use Rattle.image.specs.declared.Head.{Head}
use Rattle.image.proofs.Writing.{stop_formed, sign_stands, sign_most, write_short, parts_put, write_whole, write_back}
use Rattle.image.proofs.inner.write.Goals as goal
use Rattle.image.proofs.inner.write.Goals.{Start, After-size, Else-out-end}

long : (c : Start) → length c.args.index.stop.nodes ≡ most_nodes
long c =
    search rules

wide : (c : Start) → length c.args.index.stop.metadata ≡ most_metadata
wide c =
    search rules

signed : (c : Start) → sign_typed c.args.index.stop ≡ true
signed c =
    sign_of c.args.index.stop (search rules) (search rules) (search rules) (search rules) (search rules)

typed : (c : Else-out-end) → sign_typed c.args.index.stop ≡ true → Typed (log_of (raw c.args.index
    c.args.log.now c.args.snapshot.now))
typed c sign =
    typed_of _ c.requires.okay
    (ballot_of c.args.index.promise (search rules) (search rules) (search rules) (search rules))
    (ballot_of c.args.index.accepted_round (search rules) (search rules) (search rules) (search rules))
    sign
    c.type_inv.log c.type_inv.snapshot

stands : (c : Start) → IfSome (then_some c.args.index.stop_held c.args.index.stop) SignFormed
stands c =
    sign_stands _ _ (stop_formed _ c.requires.okay)

size : (c : After-size) → c.size.result ≡ sign_size (then_some c.args.index.stop_held c.args.index.stop)
size c =
    c.size.ensures ∙ ap sign_size c.then_some-sign.ensures

room : (c : Else-out-end) → head_size + c.args.index.keys * change_size
    + c.args.index.retained * change_size
    + sign_size (then_some c.args.index.stop_held c.args.index.stop)
    ≤ length c.args.out.now
room c =
    omega (arith, c.size.ensures ∙ ap sign_size c.then_some-sign.ensures)

pub size-requires : goal.size-requires
size-requires c =
    rw c.then_some-sign.ensures (stands (goal.at.size-requires c).Start)

pub overflow_add-end : goal.overflow_add-end
overflow_add-end c =
    let n = c.requires.numbers in
    omega (
      arith,
      size c,
      sign_most c.args.index.stop_held c.args.index.stop (stop_formed _ c.requires.okay),
      n.room,
      c.requires.snapshot.laid.fits,
    )

pub returns-then-out-end : goal.returns-then-out-end
returns-then-out-end c =
    let x = (goal.at.returns-then-out-end c).Start in
    let n = size (goal.at.returns-then-out-end c).After-size in
    record {
      out_after = write_short _ c.requires.okay (long x) (wide x) c.args.out.now (omega (arith, n));
      reads_back = tt;
    }

pub put-requires : goal.put-requires
put-requires c =
    record {
      sign_value = rw c.then_some-sign.ensures (stands (goal.at.put-requires c).Start);
      sign_in_bounds = omega (arith, c.size.ensures);
    }

pub returns : goal.returns
returns c =
    let x = (goal.at.returns c).Start in
    let y = (goal.at.returns c).Else-out-end in
    let o = c.put.new.s in
    let r = raw c.args.index c.args.log.now c.args.snapshot.now in
    let h = room y in
    let e = parts_put r c.requires.okay (long x) (wide x) c.args.out.now c.put_head.new.s
    c.put_changes.new.s
    c.put_changes-2.new.s o h
    (c.put_head.ensures
    ∙ ap (λ (h : Head). spliced 0 head_size (sealed (head_fields h)) c.args.out.now) c.head_of.ensures)
    c.put_changes.ensures c.put_changes-2.ensures (rw c.then_some-sign.ensures at c.put.ensures) in
    rw (size (goal.at.returns c).After-size) record {
      out_after = write_whole r c.requires.okay (long x) (wide x) c.args.out.now o h e;
      reads_back = write_back r c.requires.okay (long x) (wide x) c.args.out.now o h e (typed y (signed x));
    }
