-- One entry put into words, and a run of them: what the words hold after each.
use Rattle.words.proofs.Prelude.{arith, ◌≡◌, refl, sym, ap, ◌∙◌, ℕ, suc, ◌+◌, ◌-◌, ◌*◌, ◌≤◌, ◌<◌, true, le-leb, lt-leb}
use Rattle.words.proofs.Prelude.{List, [], ◌∷◌, append-nil, ◌++◌, take-append-drop, length, take, drop, take_all}
use native.Mathlib.Decide.{dec_le}
use lib.Seq.{take-add}
use Rattle.words.specs.{Words.laid, Words.spliced, Coded.words_of}
use Rattle.words.proofs.{Alls.all_head, Alls.all_drop, CodedLaws.entries_length, CodedLaws.spliced_laid}
use Rattle.entry.specs.{Limits.width, declared.Refusal.Refusal, declared.Refusal.TheVariants.TooManyKeys}
use Rattle.entry.specs.{Change.Change, Change.change_code, Change.change_formed, Change.entries_formed, Change.entries_of}
use Rattle.entry.specs.{Change.stored, Change.stored_in, Inner.change_at}
use Rattle.entry.proofs.ChangeLaws.{change_ok, entry_words, entry_cons}
use Rattle.entry.proofs.SliceLaws.{laid_of, laid_stored, stored_length, stored_entries, stored_laid}
use Rattle.snapshot.specs.{Folds.insert, Folds.fold_onto, Folds.rising, Inner.rank, Inner.spot_of, Inner.folded_in}
use Rattle.snapshot.specs.{Inner.Holds, Inner.Shows, Inner.FoldIs}
use Rattle.std.specs.Prelude.{Result, Ok, Err}
use Rattle.snapshot.proofs.Folds.{onto_append, rising_insert}
use Rattle.snapshot.proofs.Searching.{spot_at, spot_before, Put, insert_over, insert_into, insert_grows}
use Rattle.snapshot.proofs.Forming.{formed_insert}

pub folded_fits : (words : ℕ) (es : List Change) → length es * width ≤ words → folded_in words es ≡ Ok (length es)
unfolding folded_in
folded_fits words es h = rw (le-leb (length es * width) words h)

pub folded_full : (words : ℕ) (es : List Change) → words < length es * width → folded_in words es ≡ Err TooManyKeys
unfolding folded_in
folded_full words es h = rw (lt-leb (length es * width) words h)

-- what a reply tells of the size
pub folded_keys : (words : ℕ) (es : List Change) (k : ℕ) → folded_in words es ≡ Ok k
    → (length es * width ≤ words) × (k ≡ length es)
folded_keys words es k e = go (dec_le (length es * width) words)
  where
    go : Dec (length es * width ≤ words) → (length es * width ≤ words) × (k ≡ length es)
    go (yes h) = let b = folded_fits words es h in let q : k ≡ length es = cc in (h, q)
    go (no h) = let b = folded_full words es (omega arith) in let z : ◌≡◌ {A = ℕ} 0 1 = cc in absurd (omega arith)

pub folded_refused : (words : ℕ) (es : List Change) (x : Refusal) → folded_in words es ≡ Err x
    → words < length es * width
folded_refused words es x e = go (dec_le (length es * width) words)
  where
    go : Dec (length es * width ≤ words) → words < length es * width
    go (yes h) = let b = folded_fits words es h in let z : ◌≡◌ {A = ℕ} 0 1 = cc in absurd (omega arith)
    go (no h) = omega arith

pub folded_over : (words : ℕ) (es : List Change) (r : Result ℕ Refusal) (x : Refusal) → r ≡ folded_in words es → r ≡ Err x
    → r ≡ Err TooManyKeys
folded_over words es r x p e = p ∙ folded_full words es (folded_refused words es x (sym p ∙ e))

-- the entry that the words `item` are, put among the n entries of s
module _ (s : List ℕ) (n : ℕ) (item : List ℕ) (h : Holds (length s) n s) (whole : length item ≡ width) where
  abbrev c : Change
  c = change_code.dec item

  one_entry : item ≡ words_of change_code (c ∷ [])
  unfolding words_of
  one_entry = sym (append-nil (change_code.enc c) ∙ change_ok.forth item whole)

  long : length (entries_of n s) ≡ n
  long = entries_length change_code n s

  -- a splice of one entry, over `cut` others
  put_words : (i cut : ℕ) → Put c (entries_of n s) cut → rank (entries_of n s) c.key ≡ i
      → laid (length s) (spliced (i * width) (cut * width) item (take (n * width) s))
      ≡ stored (length s) (insert c (entries_of n s))
  put_words i cut p e =
      spliced_laid change_code change_ok n i cut s item (c ∷ []) h.laid.fits one_entry
      ∙ ap (λ (j : ℕ). stored (length s) (spliced j cut (c ∷ []) (entries_of n s))) (sym e)
      ∙ ap (stored (length s)) (sym p.spliced_is)

  module _ (i : ℕ) (e : Ok i ≡ spot_of (entries_of n s) c.key) where
    over : Put c (entries_of n s) 1
    over = insert_over c (entries_of n s) (spot_at (entries_of n s) c.key i (sym e)).0

    pub put_at : FoldIs (length s) (insert c (entries_of n s)) (Ok n)
        (laid (length s) (spliced (i * width) width item (take (n * width) s)))
    put_at =
        let k : n ≡ length (insert c (entries_of n s)) = omega (arith, over.length_is, long) in
        record {
          reply = ap Ok k ∙ sym (folded_fits (length s) (insert c (entries_of n s)) (omega (arith, h.laid.fits)));
          words_are = λ _. put_words i 1 over (spot_at (entries_of n s) c.key i (sym e)).1;
        }

  module _ (i : ℕ) (e : Err i ≡ spot_of (entries_of n s) c.key) where
    into : Put c (entries_of n s) 0
    into = insert_into c (entries_of n s) (spot_before (entries_of n s) c.key i (sym e)).0

    pub before_inside : i ≤ n
    before_inside = omega (arith, into.inside, (spot_before (entries_of n s) c.key i (sym e)).1, long)

    pub put_before : width ≤ length s - n * width
        → FoldIs (length s) (insert c (entries_of n s)) (Ok (n + 1))
        (laid (length s) (spliced (i * width) 0 item (take (n * width) s)))
    put_before room =
        let k : n + 1 ≡ length (insert c (entries_of n s)) = omega (arith, into.length_is, long) in
        record {
          reply = ap Ok k ∙ sym (folded_fits (length s) (insert c (entries_of n s)) (omega (arith, h.laid.fits)));
          words_are = λ _. put_words i 0 into (spot_before (entries_of n s) c.key i (sym e)).1;
        }

    pub put_full : (t : List ℕ) → length s - n * width < width
        → FoldIs (length s) (insert c (entries_of n s)) (Err TooManyKeys) t
    put_full t full =
        let k : n + 1 ≡ length (insert c (entries_of n s)) = omega (arith, into.length_is, long) in
        let o : length s < length (insert c (entries_of n s)) * width = omega (arith, h.laid.fits) in
        record {
          reply = sym (folded_full (length s) (insert c (entries_of n s)) o);
          words_are = λ w. absurd (omega arith);
        }

-- the words s hold the entries m, in form and ascending, and zeros after them
pub record Sofar (words : ℕ) (m : List Change) (s : List ℕ) (kept : ℕ) : Type 0 where
  pub same_long : length s ≡ words
  pub count : kept ≡ length m
  pub room : kept * width ≤ words
  pub good : entries_formed m ≡ true
  pub rises : rising m ≡ true
  pub words_are : s ≡ stored words m

pub sofar_start : (n : ℕ) (s : List ℕ) → Holds (length s) n s → Sofar (length s) (entries_of n s) s n
sofar_start n s h = record {
  same_long = refl;
  count = sym (entries_length change_code n s);
  room = h.laid.fits;
  good = h.laid.fine;
  rises = h.rises;
  words_are = laid_stored (length s) n s h.laid;
}

module _ (words : ℕ) (m : List Change) (s : List ℕ) (kept : ℕ) (f : Sofar words m s kept) where
  sofar_entries : entries_of kept s ≡ m
  sofar_entries = rw (f.count, f.words_are) (stored_entries words m f.good)

  pub sofar_holds : Holds (length s) kept s
  sofar_holds =
      let fits : length m * width ≤ words = omega (arith, f.count, f.room) in
      let in_form : stored_in words kept s ≡ true = rw (f.count, f.words_are) (stored_laid words m fits f.good) in
      record { laid = rw f.same_long (laid_of words kept s in_form); rises = rw sofar_entries f.rises }

  module _ (c : Change) (r : Result ℕ Refusal) (t : List ℕ) (p : FoldIs (length s) (insert c (entries_of kept s)) r t) where
    put_is : FoldIs words (insert c m) r t
    put_is = rw (f.same_long, sofar_entries) at p

    pub sofar_put : change_formed c ≡ true → (k : ℕ) → r ≡ Ok k → Sofar words (insert c m) t k
    sofar_put good k e =
        let q = folded_keys words (insert c m) k (sym put_is.reply ∙ e) in
        let w : t ≡ stored words (insert c m) = put_is.words_are q.0 in
        record {
          same_long = rw w (stored_length words (insert c m) q.0);
          count = q.1;
          room = omega (arith, q.0, q.1);
          good = formed_insert c m good f.good;
          rises = rising_insert c m f.rises;
          words_are = w;
        }

    pub sofar_full : (x : Refusal) → r ≡ Err x → words < length (insert c m) * width
    sofar_full x e = folded_refused words (insert c m) x (sym put_is.reply ∙ e)

-- a run of puts, entry by entry
take_next : (i : ℕ) (es : List Change) (e : Change) → drop i es ≡ e ∷ drop (suc i) es
    → take (i + 1) es ≡ take i es ++ (e ∷ [])
take_next i es e h = take-add i 1 es ∙ ap (λ (l : List Change). take i es ++ take 1 l) h

onto_next : (base : List Change) (n i : ℕ) (ws : List ℕ) → i < n
    → fold_onto base (take (i + 1) (entries_of n ws)) ≡ insert (change_at ws i) (fold_onto base (take i (entries_of n ws)))
unfolding fold_onto
onto_next base n i ws h =
    ap (fold_onto base) (take_next i (entries_of n ws) (change_at ws i) (entry_cons i n ws h))
    ∙ onto_append base (take i (entries_of n ws)) (change_at ws i ∷ [])

onto_grows : (base es : List Change) → length base ≤ length (fold_onto base es)
unfolding fold_onto
onto_grows base [] = omega arith
onto_grows base (e ∷ es) = omega (arith, insert_grows e base, onto_grows (insert e base) es)

onto_part : (base es : List Change) (i : ℕ) → length (fold_onto base (take i es)) ≤ length (fold_onto base es)
onto_part base es i =
    let e : fold_onto base es ≡ fold_onto (fold_onto base (take i es)) (drop i es) =
    ap (fold_onto base) (sym (take-append-drop i es)) ∙ onto_append base (take i es) (drop i es) in
    rw e (onto_grows (fold_onto base (take i es)) (drop i es))

module _ (words : ℕ) (base : List Change) (n : ℕ) (ws : List ℕ) (shown : Shows n ws) (i : ℕ) (s : List ℕ) (kept : ℕ)
    (f : Sofar words (fold_onto base (take i (entries_of n ws))) s kept) where
  pub fold_done : n ≤ i → FoldIs words (fold_onto base (entries_of n ws)) (Ok kept) s
  fold_done h =
      let t : take i (entries_of n ws)
      ≡ entries_of n ws = take_all i (entries_of n ws) (omega (arith, entries_length change_code n ws)) in
      let g : Sofar words (fold_onto base (entries_of n ws)) s kept = rw t at f in
      record {
        reply = ap Ok g.count
            ∙ sym (folded_fits words (fold_onto base (entries_of n ws)) (omega (arith, g.count, g.room)));
        words_are = λ _. g.words_are;
      }

  module _ (h : i < n) where
    next_formed : change_formed (change_at ws i) ≡ true
    next_formed = all_head change_formed (change_at ws i) (drop (suc i) (entries_of n ws))
        (rw (entry_cons i n ws h) at (all_drop change_formed i (entries_of n ws) shown.sound))

    -- the entry at i is put, as the part of the words that it is
    module _ (r : Result ℕ Refusal) (t : List ℕ)
        (p : FoldIs (length s) (insert (change_code.dec (take (i * width + width - i * width) (drop (i * width) ws)))
        (entries_of kept s)) r t) where
      put_next : FoldIs (length s) (insert (change_at ws i) (entries_of kept s)) r t
      put_next =
          let m : i * width + width - i * width ≡ width = omega arith in
          rw (m, entry_words i ws) at p

      pub fold_turn : (k : ℕ) → r ≡ Ok k → Sofar words (fold_onto base (take (i + 1) (entries_of n ws))) t k
      fold_turn k e = rw (onto_next base n i ws h)
          (sofar_put words (fold_onto base (take i (entries_of n ws))) s kept f (change_at ws i)
          r t put_next next_formed k e)

      pub fold_refused : (x : Refusal) → r ≡ Err x → FoldIs words (fold_onto base (entries_of n ws)) r t
      fold_refused x e =
          let a = sofar_full words (fold_onto base (take i (entries_of n ws))) s kept f (change_at ws i)
          r t put_next x e in
          let b = ap length (onto_next base n i ws h) in
          let o : words < length (fold_onto base (entries_of n ws)) * width =
          omega (arith, onto_part base (entries_of n ws) (i + 1)) in
          record {
            reply = folded_over _ _ r x put_next.reply e
                ∙ sym (folded_full words (fold_onto base (entries_of n ws)) o);
            words_are = λ w. absurd (omega arith);
          }
