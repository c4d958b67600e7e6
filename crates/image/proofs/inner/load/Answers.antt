-- `image::inner::load` meets its contract.
use Rattle.words.proofs.Prelude.{arith, refl, ◌+◌, ◌*◌, ◌≤◌, length}
use Rattle.records.proofs.Loops.{bytes_of}
use Rattle.image.specs.Layout.{head_size, change_size}
use Rattle.image.proofs.Loading.{load_head, load_room, keys_fit, entries_fit, load_sound, load_whole}
use Rattle.image.proofs.inner.load.Goals as goal
use Rattle.image.proofs.inner.load.Goals.{After-head_at-h}

room : (c : After-head_at-h)
    → head_size + c.head_at-h.result.keys * change_size + c.head_at-h.result.entries * change_size
    ≤ length c.args.bytes.now
room c =
    load_room _ _ _ _ (bytes_of c.args.bytes.now c.type_inv.bytes) c.requires _ c.head_at-h.ensures

pub head_at-h-requires : goal.head_at-h-requires
head_at-h-requires c =
    load_head _ _ _ _ (bytes_of c.args.bytes.now c.type_inv.bytes) c.requires _ refl

pub load_changes-requires : goal.load_changes-requires
load_changes-requires c =
    record {
      change_size_in_bounds = omega (arith, room (goal.at.load_changes-requires c).After-head_at-h);
      width_in_bounds = keys_fit _ _ _ _ (bytes_of c.args.bytes.now c.type_inv.bytes) c.requires _ c.head_at-h.ensures;
    }

pub load_changes-requires-2 : goal.load_changes-requires-2
load_changes-requires-2 c =
    record {
      change_size_in_bounds = room (goal.at.load_changes-requires-2 c).After-head_at-h;
      width_in_bounds = entries_fit _ _ _ _ (bytes_of c.args.bytes.now c.type_inv.bytes) c.requires _ c.head_at-h.ensures;
    }

pub load_if-sign-requires : goal.load_if-sign-requires
load_if-sign-requires c =
    record {
      at_in_bounds = room (goal.at.load_if-sign-requires c).After-head_at-h;
      s_value = load_sound _ _ _ _ (bytes_of c.args.bytes.now c.type_inv.bytes) c.requires _ c.head_at-h.ensures;
    }

pub returns : goal.returns
returns c =
    load_whole _ _ _ _ (bytes_of c.args.bytes.now c.type_inv.bytes) c.requires _ c.head_at-h.ensures
    c.load_changes-2.new.words
    c.load_changes.new.words c.load_if-sign.result c.index_from.result c.load_changes.ensures
    c.load_changes-2.ensures c.load_if-sign.ensures c.index_from.ensures

pub overflow_mul-keys_end : goal.overflow_mul-keys_end
overflow_mul-keys_end c =
    omega (arith, room (goal.at.overflow_mul-keys_end c).After-head_at-h)

pub overflow_add-keys_end : goal.overflow_add-keys_end
overflow_add-keys_end c =
    omega (arith, room (goal.at.overflow_add-keys_end c).After-head_at-h)

pub overflow_mul-entries_end : goal.overflow_mul-entries_end
overflow_mul-entries_end c =
    omega (arith, room (goal.at.overflow_mul-entries_end c).After-head_at-h)

pub overflow_add-entries_end : goal.overflow_add-entries_end
overflow_add-entries_end c =
    omega (arith, room (goal.at.overflow_add-entries_end c).After-head_at-h)
