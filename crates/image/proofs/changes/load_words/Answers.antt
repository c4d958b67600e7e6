-- `image::changes::load_words` meets its contract: at each turn, what is left to load gives what is asked.
use Rattle.words.proofs.Prelude.{arith, ◌≡◌, refl, sym, ◌∙◌, ◌+◌, ◌-◌, ◌*◌, List, ℕ, length-drop, length-take}
use Rattle.words.specs.All.{all_of}
use Rattle.records.specs.Sealed.{total}
use Rattle.entry.specs.Limits.{width}
use Rattle.image.proofs.Loads.{load_length, load_turn, load_done}
use Rattle.image.proofs.changes.load_words.Goals as goal

pub get_fields-requires : goal.get_fields-requires
unfolding total all_of
get_fields-requires c =
    record {
      widths_in_bounds = omega arith;
      widths_value = refl;
      ns_len = simp (length-take, length-drop) (omega arith);
    }

pub loop-i-preserved : goal.loop-i-preserved
loop-i-preserved c =
    let l = c.loop-i in
    let ys : List ℕ = c.get_fields.new.ns in
    let w : l.i * width + width - l.i * width ≡ width = omega arith in
    record {
      long = load_length c.args.s.now c.args.n l.i c.args.at l.words ys _ (omega arith) (omega arith) w
          c.get_fields.ensures
          ∙ l.invariant.long;
      rest = load_turn c.args.s.now c.args.n l.i c.args.at l.words ys _ (omega arith) (omega arith) w
          c.get_fields.ensures
          ∙ l.invariant.rest;
    }

pub returns : goal.returns
returns c =
    let l = c.loop-i in
    sym (load_done c.args.s.now c.args.n l.i c.args.at l.words (omega arith)) ∙ l.invariant.rest
