-- `image::header::head_formed` meets its contract: the sizes first, so that the sums of the rest fit.
use Rattle.words.proofs.Prelude.{◌≡◌, sym, ap, ap₂, ◌∙◌, ℕ, Bool, false, ◌&&◌, ◌||◌, not, eqb, leb}
use Rattle.entry.specs.Limits.{key_room}
use Rattle.model.specs.Numbers.{accepted_of, numbers_formed}
use Rattle.state_cache.specs.Inner.{sizes_formed, Small}
use Rattle.state_cache.specs.declared.IndexRecord.{IndexRecord}
use Rattle.state_cache.specs.State.{numbers_in}
use Rattle.state_cache.proofs.Small.{small_of, sizes_fail}
use Rattle.image.specs.Reading.{head_numbers, head_formed}
use Rattle.image.proofs.HeadLaws.{not_formed}
use Rattle.image.proofs.header.head_formed.Goals as goal
use Rattle.image.proofs.header.head_formed.Goals.{Else-not-sizes_formed}

small : (e : Else-not-sizes_formed) → Small (numbers_in e.index_from-index.result)
small e =
    small_of _ (sym e.sizes_formed.ensures ∙ e.if-not-sizes_formed.false)

pub returns-then-not-sizes_formed : goal.returns-then-not-sizes_formed
returns-then-not-sizes_formed c =
    let h = c.args.h in
    let fail : numbers_formed (head_numbers h) ≡ false = sizes_fail (head_numbers h)
    (sym (ap (λ (i : IndexRecord). sizes_formed (numbers_in i)) c.index_from-index.ensures)
    ∙ sym c.sizes_formed.ensures ∙ c.if-not-sizes_formed.true) in
    not_formed h fail

pub returns : goal.returns
unfolding head_formed
returns c =
    let h = c.args.h in
    ap₂ (λ (n : ℕ) (t : Bool). (h.stop || not h.metadata) && ((h.snapshot || eqb h.keys 0)
    && (leb h.keys key_room && (eqb h.accepted n && t))))
    (c.accepted-last.ensures ∙ ap (λ (i : IndexRecord). accepted_of (numbers_in i)) c.index_from-index.ensures)
    (c.numbers_formed-numbers.ensures
    ∙ ap (λ (i : IndexRecord). numbers_formed (numbers_in i)) c.index_from-index.ensures)

pub numbers_formed-numbers-requires : goal.numbers_formed-numbers-requires
numbers_formed-numbers-requires c =
    small c

pub accepted-last-requires : goal.accepted-last-requires
accepted-last-requires c =
    small (goal.at.accepted-last-requires c).Else-not-sizes_formed
