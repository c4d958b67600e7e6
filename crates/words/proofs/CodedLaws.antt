-- Entries and their words, at any width and any capacity.
use Rattle.words.proofs.Prelude.{arith, ◌≡◌, refl, sym, ap, ap₂, ◌∙◌, ℕ, zero, suc, ◌+◌, ◌-◌, ◌*◌, ◌≤◌, ◌<◌}
use Rattle.words.proofs.Prelude.{true, List, [], ◌∷◌, append-nil, append_assoc, ◌++◌, length-drop, length-append}
use Rattle.words.proofs.Prelude.{length, take, drop, replicate, get_or, length-take-le, drop-cons}
use native.Mathlib.Nat.{add-mul, zero-mul, suc-mul, zero-add, suc-add}
use lib.Seq.{take-append-add, drop-append-add, take_at, drop_at, take-add, drop-drop, take-nil, drop-nil, take-length}
use lib.Seq.{paste, drop-length, take-append_seam, drop-append_seam, take-append-le, drop-append-le}
use Rattle.words.specs.{All.all_of, Words.laid, Words.spliced, Coded.Code, Coded.Lawful, Coded.words_of}
use Rattle.words.specs.{Coded.entries_at, Coded.laid_out, Coded.over}
use Rattle.words.proofs.Alls.{all_head, all_tail}

module _ {E : Type 0} (c : Code E) where
  pub words_append : (a b : List E) → words_of c (a ++ b) ≡ words_of c a ++ words_of c b
  unfolding words_of
  words_append [] b = refl
  words_append (e ∷ a) b = ap (λ (l : List ℕ). c.enc e ++ l) (words_append a b)
      ∙ sym (append_assoc (c.enc e) (words_of c a) (words_of c b))

  pub entries_length : (n : ℕ) (ws : List ℕ) → length (entries_at c n ws) ≡ n
  unfolding entries_at
  entries_length zero ws = refl
  entries_length (suc n) ws = ap suc (entries_length n (drop c.width ws))

  -- the first m entries, and then n
  pub entries_add : (m n : ℕ) (ws : List ℕ)
      → entries_at c (m + n) ws ≡ entries_at c m ws ++ entries_at c n (drop (m * c.width) ws)
  unfolding entries_at
  entries_add zero n ws = ap (λ (k : ℕ). entries_at c k ws) (zero-add n)
      ∙ ap (λ (k : ℕ). entries_at c n (drop k ws)) (sym (zero-mul c.width))
  entries_add (suc m) n ws =
      let e : c.width + m * c.width ≡ suc m * c.width = omega (arith, suc-mul m c.width) in
      ap (λ (k : ℕ). entries_at c k ws) (suc-add m n)
      ∙ ap (λ (l : List E). c.dec (take c.width ws) ∷ l)
      (entries_add m n (drop c.width ws)
      ∙ ap (λ (l : List ℕ). entries_at c m (drop c.width ws) ++ entries_at c n l)
      (drop-drop (m * c.width) c.width ws ∙ ap (λ (k : ℕ). drop k ws) e))

  pub entries_take : (m n : ℕ) (ws : List ℕ) → m ≤ n → take m (entries_at c n ws) ≡ entries_at c m ws
  entries_take m n ws h =
      let e : n ≡ m + (n - m) = omega arith in
      ap (λ (k : ℕ). take m (entries_at c k ws)) e
      ∙ ap (λ (l : List E). take m l) (entries_add m (n - m) ws)
      ∙ take_at (entries_at c m ws) (entries_at c (n - m) (drop (m * c.width) ws)) m (entries_length m ws)

  pub entries_drop : (m n : ℕ) (ws : List ℕ) → m ≤ n
      → drop m (entries_at c n ws) ≡ entries_at c (n - m) (drop (m * c.width) ws)
  entries_drop m n ws h =
      let e : n ≡ m + (n - m) = omega arith in
      ap (λ (k : ℕ). drop m (entries_at c k ws)) e
      ∙ ap (λ (l : List E). drop m l) (entries_add m (n - m) ws)
      ∙ drop_at (entries_at c m ws) (entries_at c (n - m) (drop (m * c.width) ws)) m (entries_length m ws)

  -- the entry at i, and those after it
  pub entries_cons : (i n : ℕ) (ws : List ℕ) → i < n
      → drop i (entries_at c n ws) ≡ c.dec (take c.width (drop (i * c.width) ws)) ∷ drop (suc i) (entries_at c n ws)
  unfolding entries_at
  entries_cons i zero ws h = absurd (omega arith)
  entries_cons zero (suc n) ws h =
      ap (λ (k : ℕ). c.dec (take c.width (drop k ws)) ∷ entries_at c n (drop c.width ws))
      (sym (zero-mul c.width))
  entries_cons (suc i) (suc n) ws h =
      let e : c.width + i * c.width ≡ suc i * c.width = omega (arith, suc-mul i c.width) in
      entries_cons i n (drop c.width ws) (omega arith)
      ∙ ap (λ (l : List ℕ). c.dec (take c.width l) ∷ drop (suc i) (entries_at c n (drop c.width ws)))
      (drop-drop (i * c.width) c.width ws ∙ ap (λ (k : ℕ). drop k ws) e)

  -- entries are read from the front alone; words joined are entries joined
  entries_front : (n : ℕ) (a b : List ℕ) → n * c.width ≤ length a → entries_at c n (a ++ b) ≡ entries_at c n a
  unfolding entries_at
  entries_front zero a b h = refl
  entries_front (suc n) a b h =
      let e : suc n * c.width ≡ c.width + n * c.width = omega (arith, suc-mul n c.width) in
      ap (λ (l : List ℕ). c.dec l ∷ entries_at c n (drop c.width (a ++ b)))
      (take-append-le c.width a b (omega arith))
      ∙ ap (λ (l : List E). c.dec (take c.width a) ∷ l)
      (ap (entries_at c n) (drop-append-le c.width a b (omega arith))
      ∙ entries_front n (drop c.width a) b (simp length-drop (omega arith)))

  pub entries_append : (m n : ℕ) (a b : List ℕ) → length a ≡ m * c.width
      → entries_at c (m + n) (a ++ b) ≡ entries_at c m a ++ entries_at c n b
  entries_append m n a b h =
      entries_add m n (a ++ b)
      ∙ ap (λ (l : List E). l ++ entries_at c n (drop (m * c.width) (a ++ b))) (entries_front m a b (omega arith))
      ∙ ap (λ (l : List ℕ). entries_at c m a ++ entries_at c n l) (drop_at a b (m * c.width) h)

  module _ (ok : Lawful E c) where
    pub words_length : (es : List E) → length (words_of c es) ≡ length es * c.width
    unfolding words_of
    words_length [] = sym (zero-mul c.width)
    words_length (e ∷ es) =
        omega (
          arith,
          length-append (c.enc e) (words_of c es),
          ok.long e,
          words_length es,
          suc-mul (length es) c.width,
        )

    pub words_take : (n : ℕ) (es : List E) → take (n * c.width) (words_of c es) ≡ words_of c (take n es)
    unfolding words_of
    words_take zero es = ap (λ (k : ℕ). take k (words_of c es)) (zero-mul c.width)
    words_take (suc n) [] = take-nil (suc n * c.width)
    words_take (suc n) (e ∷ es) =
        let q : suc n * c.width ≡ length (c.enc e) + n * c.width = omega (arith, suc-mul n c.width, ok.long e) in
        ap (λ (k : ℕ). take k (c.enc e ++ words_of c es)) q
        ∙ take-append-add (c.enc e) (words_of c es) (n * c.width)
        ∙ ap (λ (l : List ℕ). c.enc e ++ l) (words_take n es)

    pub words_drop : (n : ℕ) (es : List E) → drop (n * c.width) (words_of c es) ≡ words_of c (drop n es)
    unfolding words_of
    words_drop zero es = ap (λ (k : ℕ). drop k (words_of c es)) (zero-mul c.width)
    words_drop (suc n) [] = drop-nil (suc n * c.width)
    words_drop (suc n) (e ∷ es) =
        let q : suc n * c.width ≡ length (c.enc e) + n * c.width = omega (arith, suc-mul n c.width, ok.long e) in
        ap (λ (k : ℕ). drop k (c.enc e ++ words_of c es)) q
        ∙ drop-append-add (c.enc e) (words_of c es) (n * c.width)
        ∙ words_drop n es

    -- what some sound entries' words are, whatever stands after them
    pub entries_words : (es : List E) (rest : List ℕ) → all_of c.sound es ≡ true
        → entries_at c (length es) (words_of c es ++ rest) ≡ es
    unfolding words_of entries_at
    entries_words [] rest fine = refl
    entries_words (e ∷ es) rest fine =
        let s : c.enc e ++ words_of c es ++ rest
        ≡ c.enc e ++ (words_of c es ++ rest) = append_assoc (c.enc e) (words_of c es) rest in
        ap (λ (l : List ℕ). c.dec (take c.width l) ∷ entries_at c (length es) (drop c.width l)) s
        ∙ ap (λ (l : List ℕ). c.dec l ∷ entries_at c (length es) (drop c.width (c.enc e ++ (words_of c es ++ rest))))
        (take_at (c.enc e) (words_of c es ++ rest) c.width (ok.long e))
        ∙ ap (λ (l : List ℕ). c.dec (c.enc e) ∷ entries_at c (length es) l)
        (drop_at (c.enc e) (words_of c es ++ rest) c.width (ok.long e))
        ∙ ap (λ (x : E). x ∷ entries_at c (length es) (words_of c es ++ rest))
        (ok.back e (all_head c.sound e es fine))
        ∙ ap (λ (l : List E). e ∷ l) (entries_words es rest (all_tail c.sound e es fine))

    -- the words of the entries at the front are the words at the front
    pub words_entries : (n : ℕ) (ws : List ℕ) → n * c.width ≤ length ws
        → words_of c (entries_at c n ws) ≡ take (n * c.width) ws
    unfolding words_of entries_at
    words_entries zero ws h = ap (λ (k : ℕ). take k ws) (sym (zero-mul c.width))
    words_entries (suc n) ws h =
        let q : suc n * c.width ≡ c.width + n * c.width = omega (arith, suc-mul n c.width) in
        ap (λ (l : List ℕ). l ++ words_of c (entries_at c n (drop c.width ws)))
        (ok.forth (take c.width ws) (length-take-le c.width ws (omega arith)))
        ∙ ap (λ (l : List ℕ). take c.width ws ++ l)
        (words_entries n (drop c.width ws) (simp length-drop (omega arith)))
        ∙ sym (take-add c.width (n * c.width) ws)
        ∙ ap (λ (k : ℕ). take k ws) (sym q)

    -- a change of whole entries is the change of their words
    pub words_spliced : (at cut : ℕ) (new es : List E)
        → spliced (at * c.width) (cut * c.width) (words_of c new) (words_of c es) ≡ words_of c (spliced at cut new es)
    words_spliced at cut new es =
        let q : at * c.width + cut * c.width ≡ (at + cut) * c.width = sym (add-mul at cut c.width) in
        ap (λ (l : List ℕ). l ++ (words_of c new ++ drop (at * c.width + cut * c.width) (words_of c es)))
        (words_take at es)
        ∙ ap (λ (k : ℕ). words_of c (take at es) ++ (words_of c new ++ drop k (words_of c es))) q
        ∙ ap (λ (l : List ℕ). words_of c (take at es) ++ (words_of c new ++ l)) (words_drop (at + cut) es)
        ∙ sym (words_append (take at es) (new ++ drop (at + cut) es)
        ∙ ap (λ (l : List ℕ). words_of c (take at es) ++ l) (words_append new (drop (at + cut) es)))

    -- a slice with some entries over its front, and one entry more
    over_is : (es : List E) (ws : List ℕ) → over c es ws ≡ words_of c es ++ drop (length es * c.width) ws
    over_is es ws = ap (λ (k : ℕ). words_of c es ++ drop k ws) (zero-add (length es * c.width))

    pub over_next : (es : List E) (e : E) (ws : List ℕ)
        → paste (over c es ws) (length es * c.width) (c.enc e) (length (c.enc e)) ≡ over c (es ++ (e ∷ [])) ws
    unfolding words_of
    over_next es e ws =
        let at : ℕ = length es * c.width in
        let n : ℕ = length (c.enc e) in
        let more : suc (length es) ≡ length (es ++ (e ∷ [])) = omega (arith, length-append es (e ∷ [])) in
        let one : at + n ≡ suc (length es) * c.width = omega (arith, ok.long e, suc-mul (length es) c.width) in
        let there : at + n ≡ length (es ++ (e ∷ [])) * c.width = one ∙ ap (λ (k : ℕ). k * c.width) more in
        let past : drop (at + n) (over c es ws) ≡ drop (length (es ++ (e ∷ [])) * c.width) ws =
        ap₂ (λ (k : ℕ) (l : List ℕ). drop (k + n) l) (sym (words_length es)) (over_is es ws)
        ∙ drop-append-add (words_of c es) (drop at ws) n ∙ drop-drop n at ws ∙ ap (λ (k : ℕ). drop k ws) there in
        ap (λ (l : List ℕ). l ++ take n (c.enc e) ++ drop (at + n) (over c es ws))
        (ap (take at) (over_is es ws) ∙ take_at (words_of c es) (drop at ws) at (words_length es))
        ∙ ap₂ (λ (l m : List ℕ). words_of c es ++ l ++ m) (take-length (c.enc e)) past
        ∙ ap (λ (l : List ℕ). l ++ drop (length (es ++ (e ∷ [])) * c.width) ws)
        (ap (λ (l : List ℕ). words_of c es ++ l) (sym (append-nil (c.enc e))) ∙ sym (words_append es (e ∷ [])))
        ∙ sym (over_is (es ++ (e ∷ [])) ws)

    pub over_length : (es : List E) (ws : List ℕ) → length es * c.width ≤ length ws → length (over c es ws) ≡ length ws
    over_length es ws h =
        ap length (over_is es ws)
        ∙ omega (
          arith,
          length-append (words_of c es) (drop (length es * c.width) ws),
          words_length es,
          length-drop (length es * c.width) ws,
        )

    -- each sound entry there is read back
    pub over_at : (es : List E) (ws : List ℕ) (i : ℕ) (d : E) → all_of c.sound es ≡ true → i < length es
        → c.dec (take c.width (drop (i * c.width) (over c es ws))) ≡ get_or es i d
    over_at es ws i d fine h =
        ap (λ (l : List E). get_or l 0 d)
        (sym (entries_cons i (length es) (over c es ws) h)
        ∙ ap (λ (l : List ℕ). drop i (entries_at c (length es) l)) (over_is es ws)
        ∙ ap (drop i) (entries_words es (drop (length es * c.width) ws) fine)
        ∙ drop-cons es i d h)

    -- what a slice that is laid out holds
    pub entries_laid : (n : ℕ) (es : List E) → all_of c.sound es ≡ true
        → entries_at c (length es) (laid_out c n es) ≡ es
    unfolding laid
    entries_laid n es fine = entries_words es (replicate (n - length (words_of c es)) 0) fine

    -- words with nothing but zeros after the n-th entry are those entries laid out
    pub laid_entries : (n : ℕ) (ws : List ℕ) → n * c.width ≤ length ws → ws ≡ laid (length ws) (take (n * c.width) ws)
        → ws ≡ laid_out c (length ws) (entries_at c n ws)
    laid_entries n ws h e = e ∙ ap (λ (l : List ℕ). laid (length ws) l) (sym (words_entries n ws h))

    -- what `splice` leaves of the n entries at the front of ws, where whole entries are cut and new ones put in
    pub spliced_laid : (n at cut : ℕ) (ws new : List ℕ) (es : List E) → n * c.width ≤ length ws → new ≡ words_of c es
        → laid (length ws) (spliced (at * c.width) (cut * c.width) new (take (n * c.width) ws))
        ≡ laid_out c (length ws) (spliced at cut es (entries_at c n ws))
    spliced_laid n at cut ws new es h e =
        ap (λ (l : List ℕ). laid (length ws) (spliced (at * c.width) (cut * c.width) l (take (n * c.width) ws))) e
        ∙ ap (λ (l : List ℕ). laid (length ws) (spliced (at * c.width) (cut * c.width) (words_of c es) l))
        (sym (words_entries n ws h))
        ∙ ap (λ (l : List ℕ). laid (length ws) l) (words_spliced at cut es (entries_at c n ws))

    -- two runs laid out one after the other are read back, each by its number
    pub entries_first : (n : ℕ) (r b : List E) → all_of c.sound r ≡ true
        → entries_at c (length r) (laid_out c n (r ++ b)) ≡ r
    unfolding laid
    entries_first n r b fine =
        let z : List ℕ = replicate (n - length (words_of c (r ++ b))) 0 in
        ap (λ (l : List ℕ). entries_at c (length r) (l ++ z)) (words_append r b)
        ∙ ap (λ (l : List ℕ). entries_at c (length r) l) (append_assoc (words_of c r) (words_of c b) z)
        ∙ entries_words r (words_of c b ++ z) fine

    pub entries_second : (n : ℕ) (r b : List E) → all_of c.sound b ≡ true
        → entries_at c (length b) (drop (length r * c.width) (laid_out c n (r ++ b))) ≡ b
    unfolding laid
    entries_second n r b fine =
        let z : List ℕ = replicate (n - length (words_of c (r ++ b))) 0 in
        ap (λ (l : List ℕ). entries_at c (length b) (drop (length r * c.width) (l ++ z))) (words_append r b)
        ∙ ap (λ (l : List ℕ). entries_at c (length b) (drop (length r * c.width) l))
        (append_assoc (words_of c r) (words_of c b) z)
        ∙ ap (λ (l : List ℕ). entries_at c (length b) l)
        (drop_at (words_of c r) (words_of c b ++ z) (length r * c.width) (words_length r))
        ∙ entries_words b z fine

-- Every change of a log, as one `spliced`.
module _ {A : Type 0} where
  pub spliced_append : (es new : List A) → spliced (length es) 0 new es ≡ es ++ new
  spliced_append es new =
      let q : length es + 0 ≡ length es = omega arith in
      ap (λ (l : List A). l ++ (new ++ drop (length es + 0) es)) (take-length es)
      ∙ ap (λ (k : ℕ). es ++ (new ++ drop k es)) q
      ∙ ap (λ (l : List A). es ++ (new ++ l)) (drop-length es)
      ∙ ap (λ (l : List A). es ++ l) (append-nil new)

  -- before the batch b
  pub spliced_before : (r b new : List A) → spliced (length r) 0 new (r ++ b) ≡ r ++ (new ++ b)
  spliced_before r b new =
      let q : length r + 0 ≡ length r = omega arith in
      ap (λ (l : List A). l ++ (new ++ drop (length r + 0) (r ++ b))) (take-append_seam r b)
      ∙ ap (λ (k : ℕ). r ++ (new ++ drop k (r ++ b))) q
      ∙ ap (λ (l : List A). r ++ (new ++ l)) (drop-append_seam r b)

  pub spliced_trim : (n : ℕ) (r b : List A) → n ≤ length r → spliced 0 n [] (r ++ b) ≡ drop n r ++ b
  spliced_trim n r b h = ap (λ (k : ℕ). drop k (r ++ b)) (zero-add n) ∙ drop-append-le n r b h

  -- from i to the end of the retained run r, the batch b stays
  pub spliced_sync : (i : ℕ) (r b new : List A) → i ≤ length r
      → spliced i (length r - i) new (r ++ b) ≡ take i r ++ (new ++ b)
  spliced_sync i r b new h =
      let q : i + (length r - i) ≡ length r = omega arith in
      ap (λ (l : List A). l ++ (new ++ drop (i + (length r - i)) (r ++ b))) (take-append-le i r b h)
      ∙ ap (λ (k : ℕ). take i r ++ (new ++ drop k (r ++ b))) q
      ∙ ap (λ (l : List A). take i r ++ (new ++ l)) (drop-append_seam r b)

  pub spliced_reload : (r b : List A) → spliced (length r) (length b) [] (r ++ b) ≡ r
  spliced_reload r b =
      ap (λ (l : List A). l ++ drop (length r + length b) (r ++ b)) (take-append_seam r b)
      ∙ ap (λ (l : List A). r ++ l) (drop-append-add r b (length b) ∙ drop-length b)
      ∙ append-nil r
