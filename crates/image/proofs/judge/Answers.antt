-- `image::judge` meets its contract, test by test.
use Rattle.words.proofs.Prelude.{arith, ◌≡◌, refl, sym, ap, ◌∙◌, ℕ, Bool, true, false, List, eqb, eq-eqb}
use Rattle.words.proofs.Prelude.{ne_eqb, take, drop}
use Rattle.records.specs.Big.{value}
use Rattle.entry.specs.Guards.{Verdict, passes, refuses, first}
use Rattle.image.specs.Reading.{head_at, head_sound, whole}
use Rattle.image.specs.Inner.{walked}
use Rattle.image.specs.Layout.{head_mark}
use Rattle.image.specs.declared.Head.{Head}
use Rattle.image.proofs.Judging.{unmarked, too_short, other_mark, is_marked, says_unmarked, says_format}
use Rattle.image.proofs.Judging.{says_head, says_spoilt, says_sound, head_long, heads}
use Rattle.std.specs.Prelude.{Result, Ok, Err, MatchResult, IsErrAnd}
use Rattle.entry.specs.declared.Refusal.{Refusal}
use Rattle.entry.specs.declared.Refusal.TheVariants.{Damaged}
use Rattle.image.specs.Calls.{judged, image_guards}
use Rattle.image.proofs.judge.Goals as goal
use Rattle.image.proofs.judge.Goals.{Else-get_big-ne-FORMAT, Else-get_big-ne-HEAD_MARK, Else-not-head_sound}

abbrev walk_says : Result (Unit {0}) ℕ → Verdict
walk_says (Ok u) = passes
walk_says (Err e) = refuses 15 e

judged_by : (w : Result (Unit {0}) ℕ) (r : Result (Unit {0}) Refusal)
    → MatchResult w (λ x. r ≡ Ok x) (λ e. IsErrAnd r (λ y. y ≡ Damaged e))
    → judged r ≡ walk_says w
judged_by (Ok u) r h = rw h refl
judged_by (Err e) (Ok u) h = absurd h
judged_by (Err e) (Err r) h = rw h refl

says_walked : (bs : List ℕ) → unmarked bs ≡ false → eqb (value (take 2 (drop 2 bs))) 1 ≡ true → head_sound bs ≡ true
    → (t : Bool) → whole (head_at bs) bs ≡ t → walk_says (walked (head_at bs) bs) ≡ first (image_guards bs)
unfolding walked
says_walked bs e f h true q = rw q (says_sound bs e f h q)
says_walked bs e f h false q = rw q (says_spoilt bs e f h q)

-- what is known behind each test that was passed
marked : (c : Else-get_big-ne-HEAD_MARK) → unmarked c.args.bytes.now ≡ false
marked c =
    let bs = c.args.bytes.now in
    is_marked bs (omega arith)
    (sym (ap (λ (n : ℕ). eqb n head_mark) c.get_big.ensures) ∙ eq-eqb _ _ c.if-get_big-ne-HEAD_MARK.false)

format : (c : Else-get_big-ne-FORMAT) → eqb
    (value (take 2 (drop 2 c.args.bytes.now))) 1 ≡ true
format c =
    sym (ap (λ (n : ℕ). eqb n 1) c.get_big-2.ensures) ∙ eq-eqb _ _ c.if-get_big-ne-FORMAT.false

headed : (c : Else-not-head_sound) → head_sound
    c.args.bytes.now ≡ true
headed c =
    sym c.head_sound.ensures ∙ c.if-not-head_sound.false

pub returns-then-bytes-lt4 : goal.returns-then-bytes-lt4
returns-then-bytes-lt4 c =
    let bs = c.args.bytes.now in
    says_unmarked bs (too_short bs c.if-bytes-lt4.true)

pub returns-then-get_big-ne-HEAD_MARK : goal.returns-then-get_big-ne-HEAD_MARK
returns-then-get_big-ne-HEAD_MARK c =
    let bs = c.args.bytes.now in
    says_unmarked bs (other_mark bs
    (sym (ap (λ (n : ℕ). eqb n head_mark) c.get_big.ensures) ∙ ne_eqb _ _ c.if-get_big-ne-HEAD_MARK.true))

pub returns-then-get_big-ne-FORMAT : goal.returns-then-get_big-ne-FORMAT
returns-then-get_big-ne-FORMAT c =
    let bs = c.args.bytes.now in
    says_format bs (marked (goal.at.returns-then-get_big-ne-FORMAT c).Else-get_big-ne-HEAD_MARK)
    (sym (ap (λ (n : ℕ). eqb n 1) c.get_big-2.ensures)
    ∙ ne_eqb _ _ c.if-get_big-ne-FORMAT.true)

pub returns-then-not-head_sound : goal.returns-then-not-head_sound
returns-then-not-head_sound c =
    let bs = c.args.bytes.now in
    says_head bs (marked (goal.at.returns-then-not-head_sound c).Else-get_big-ne-HEAD_MARK)
    (format (goal.at.returns-then-not-head_sound c).Else-get_big-ne-FORMAT)
    (sym c.head_sound.ensures ∙ c.if-not-head_sound.true)

pub head_at-requires : goal.head_at-requires
head_at-requires c =
    head_long _ (headed c)

pub walk-requires : goal.walk-requires
walk-requires c =
    let x = heads _ (headed (goal.at.walk-requires c).Else-not-head_sound) in record {
      head_size_in_bounds = head_long _ (headed (goal.at.walk-requires c).Else-not-head_sound);
      keys_le_key_room = rw c.head_at.ensures (x.keys, omega (arith, x.numbers.room));
    }

pub returns : goal.returns
returns c =
    judged_by _ _ c.map_err.ensures.cases
    ∙ ap walk_says (c.walk.ensures ∙ ap (λ (h : Head). walked h c.args.bytes.now) c.head_at.ensures)
    ∙ says_walked c.args.bytes.now (marked (goal.at.returns c).Else-get_big-ne-HEAD_MARK)
    (format (goal.at.returns c).Else-get_big-ne-FORMAT) (headed (goal.at.returns c).Else-not-head_sound)
    (whole (head_at c.args.bytes.now) c.args.bytes.now) refl
