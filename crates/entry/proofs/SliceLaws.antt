-- Slices that hold entries in form and zeros after them: what the test tells of one, and that entries laid out pass it.
use Rattle.words.proofs.Prelude.{arith, ◌≡◌, sym, ap, ◌∙◌, ℕ, ◌+◌, ◌-◌, ◌*◌, ◌/◌, ◌≤◌, true, eqb, leb, eq-eqb, eqb-true}
use Rattle.words.proofs.Prelude.{le-leb, leb-true, List, ◌++◌, length-drop, length-take, length-append}
use Rattle.words.proofs.Prelude.{take-append-drop, length, take, drop, replicate}
use Prim.Native.Nat.{◌%◌}
use Rattle.words.specs.{Words.laid, Coded.words_of}
use Rattle.words.proofs.{Tests.and_left, Tests.and_right, Tests.both_true, Alls.all_join, Alls.zeros_are}
use Rattle.words.proofs.{Alls.zeros_pass, Laws.length_laid, Laws.drop_laid, CodedLaws.entries_append}
use Rattle.words.proofs.{CodedLaws.entries_laid, CodedLaws.laid_entries, CodedLaws.words_length}
use Rattle.entry.specs.Limits.{width}
use Rattle.entry.specs.Change.{Change, change_code, change_formed, entries_formed, entries_of, entries_in, slice_formed}
use Rattle.entry.specs.Change.{stored, stored_in, Laid}
use Rattle.entry.proofs.ChangeLaws.{change_ok}

pub laid_of : (words n : ℕ) (ws : List ℕ) → stored_in words n ws ≡ true → Laid words n ws
unfolding stored_in laid
laid_of words n ws e =
    let long : length ws ≡ words = eqb-true (length ws) words (and_left _ _ e) in
    let e₂ = and_right (eqb (length ws) words) _ e in
    let fits : n * width ≤ words = leb-true (n * width) words (and_left _ _ e₂) in
    let e₃ = and_right (leb (n * width) words) _ e₂ in
    let k : length (drop (n * width) ws)
    ≡ length ws - length (take (n * width) ws) = simp (length-drop, length-take) (omega arith) in
    record {
      long = long;
      fits = fits;
      fine = and_left _ _ e₃;
      zeros = sym (take-append-drop (n * width) ws)
          ∙ ap (λ (d : List ℕ). take (n * width) ws ++ d)
          (zeros_are (drop (n * width) ws) (and_right (entries_formed (entries_of n ws)) _ e₃)
          ∙ ap (λ (m : ℕ). replicate m 0) k);
    }

-- the slice is its entries laid out
pub laid_stored : (words n : ℕ) (ws : List ℕ) → Laid words n ws → ws ≡ stored words (entries_of n ws)
laid_stored words n ws l =
    rw (← l.long) (laid_entries change_code change_ok n ws (omega (arith, l.long, l.fits)) l.zeros)

pub stored_length : (words : ℕ) (es : List Change) → length es * width ≤ words → length (stored words es) ≡ words
stored_length words es h =
    length_laid words (words_of change_code es) (omega (arith, words_length change_code change_ok es))

pub stored_entries : (words : ℕ) (es : List Change) → entries_formed es ≡ true
    → entries_of (length es) (stored words es) ≡ es
stored_entries words es fine = entries_laid change_code change_ok words es fine

pub stored_laid : (words : ℕ) (es : List Change) → length es * width ≤ words → entries_formed es ≡ true
    → stored_in words (length es) (stored words es) ≡ true
unfolding stored_in
stored_laid words es h fine =
    let n = words_length change_code change_ok es in
    rw (
      eq-eqb (length (stored words es)) words (stored_length words es h),
      le-leb (length es * width) words h,
      stored_entries words es fine,
      fine,
      drop_laid words (length es * width) (words_of change_code es) (omega arith) h,
    ) (zeros_pass (words - length es * width))

pub slice_whole : (ws : List ℕ) → slice_formed ws ≡ true → length ws % width ≡ 0
unfolding slice_formed
slice_whole ws e = eqb-true (length ws % width) 0 (and_left _ _ e)

pub slice_fine : (ws : List ℕ) → slice_formed ws ≡ true → entries_formed (entries_in ws) ≡ true
unfolding slice_formed
slice_fine ws e = and_right (eqb (length ws % width) 0) (entries_formed (entries_in ws)) e

-- entry slices joined
pub entries_join : (a b : List ℕ) → length a % width ≡ 0 → entries_in (a ++ b) ≡ entries_in a ++ entries_in b
entries_join a b whole =
    let n : length (a ++ b) / width ≡ length a / width + length b / width = simp length-append (omega arith) in
    ap (λ (k : ℕ). entries_of k (a ++ b)) n
    ∙ entries_append change_code (length a / width) (length b / width) a b (omega arith)

pub slice_join : (a b : List ℕ) → slice_formed a ≡ true → slice_formed b ≡ true → slice_formed (a ++ b) ≡ true
unfolding slice_formed
slice_join a b p q =
    let m : length a % width ≡ 0 = slice_whole a p in
    let n : length b % width ≡ 0 = slice_whole b q in
    both_true (eqb (length (a ++ b) % width) 0) (entries_formed (entries_in (a ++ b)))
    (eq-eqb (length (a ++ b) % width) 0 (simp length-append (omega arith)))
    (ap entries_formed (entries_join a b m)
    ∙ all_join change_formed (entries_in a) (entries_in b) (slice_fine a p) (slice_fine b q))
