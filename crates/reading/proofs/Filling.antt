-- Many keys in one lookup: the loop over them, the ways out; and each reply, read back, is the single lookup's.
use Rattle.words.proofs.Prelude.{arith, ◌≡◌, refl, sym, ap, ap₂, ◌∙◌, ℕ, suc, ◌+◌, ◌*◌, ◌/◌, ◌≤◌, ◌<◌, Bool, true}
use Rattle.words.proofs.Prelude.{false, ◌||◌, ltb, le-ltb, ltb-false, le-leb, leb-true, Option, List, [], ◌∷◌, ◌++◌}
use Rattle.words.proofs.Prelude.{length-map, length, take, get_or, length-take-le, take_all}
use Rattle.std.specs.Prelude.{Option as Optional}
use mathlib.Core.List.{map-append}
use lib.ListN.{get_or-map}
use lib.Seq.{paste, take-suc}
use Rattle.words.specs.{All.all_of, Coded.words_of, Coded.over}
use Rattle.words.proofs.{Tests.or_left, Tests.or_right, Alls.all_cons, CodedLaws.over_next, CodedLaws.over_length}
use Rattle.words.proofs.{CodedLaws.over_at}
use Rattle.entry.specs.{Limits.most_asked, Limits.reply_width, Change.Said, Reply.known_is, Reply.reply_formed}
use Rattle.entry.specs.{Reply.reply_code, Reply.reply_at, Guards.Answer, Guards.refused, Guards.replied}
use Rattle.entry.specs.declared.Said.{Said as CodeSaid}
use Rattle.entry.proofs.ReplyLaws.{reply_ok, reply_at_lem}
use Rattle.model.specs.{Lookup.lookup_reply, Lookup.lookup_replies, Calls.query, Calls.lookup, Calls.lookup_many}
use Rattle.model.specs.{Calls.query_reply, Calls.query_guards}
use Rattle.state_cache.specs.{State.Raw, State.formed, State.log_of, Inner.Ready, Run.Outcome, Run.run}
use Rattle.state_cache.proofs.{Runs.ill_formed, Runs.not_whole, Stands.ready_of}
use Rattle.reading.specs.Many.{room_for, filled_out}
use Rattle.reading.proofs.{Answers.bad_answer, Answers.answer_is, Answers.lookup_answer, Looking.reply_formed_lem}

module _ (r : Raw) where
  abbrev pub replies_to : List ℕ → List (Option Said)
  replies_to ks = lookup_replies ks (log_of r)

  -- what the call comes to
  abbrev pub many_out : List ℕ → List ℕ → Answer (Unit {0}) × List ℕ
  many_out keys out = filled_out (run (query (lookup_many keys)) (room_for keys out) r).answer out

  -- ---- the loop: the replies to the first i keys are written
  pub fill_start : (keys out : List ℕ) → out ≡ over reply_code (replies_to (take 0 keys)) out
  unfolding words_of
  fill_start keys out = refl

  module _ (ok : formed r ≡ true) (keys : List ℕ) (i : ℕ) (out cur : List ℕ)
      (sofar : cur ≡ over reply_code (replies_to (take i keys)) out) where
    count : i ≤ length keys → length (replies_to (take i keys)) ≡ i
    count h = length-map (take i keys) (λ (k : ℕ). lookup_reply k (log_of r)) ∙ length-take-le i keys h

    pub fill_length : i ≤ length keys → i * reply_width ≤ length out → length cur ≡ length out
    fill_length h room = ap length sofar
        ∙ over_length reply_code reply_ok (replies_to (take i keys)) out (omega (arith, room, count h))

    more : i < length keys
        → replies_to (take i keys) ++ (lookup_reply (get_or keys i 0) (log_of r) ∷ []) ≡ replies_to (take (i + 1) keys)
    more h =
        let q : suc i ≡ i + 1 = omega arith in
        sym (map-append (λ (k : ℕ). lookup_reply k (log_of r)) (take i keys) (get_or keys i 0 ∷ []))
        ∙ ap replies_to (sym (take-suc keys i 0 h) ∙ ap (λ (j : ℕ). take j keys) q)

    pub fill_turn : i < length keys → (known : Optional CodeSaid)
        → replied (known_is known) ≡ (run (query (lookup (get_or keys i 0))) true r).answer
        → (ws : List ℕ) → ws ≡ reply_code.enc (known_is known)
        → paste cur (i * reply_width) ws (length ws) ≡ over reply_code (replies_to (take (i + 1) keys)) out
    fill_turn h known a ws e =
        let es : List (Option Said) = replies_to (take i keys) in
        let x : Option Said = lookup_reply (get_or keys i 0) (log_of r) in
        let y : replied (known_is known) ≡ replied x = a ∙ lookup_answer r ok (get_or keys i 0) in
        let z : known_is known ≡ x = cc in
        let q : ws ≡ reply_code.enc x = e ∙ ap reply_code.enc z in
        ap₂ (λ (l m : List ℕ). paste l (i * reply_width) m (length m)) sofar q
        ∙ ap (λ (j : ℕ). paste (over reply_code es out) (j * reply_width) (reply_code.enc x) (length (reply_code.enc x)))
        (sym (count (omega arith)))
        ∙ over_next reply_code reply_ok es x out
        ∙ ap (λ (l : List (Option Said)). over reply_code l out) (more h)

    pub fill_done : length keys ≤ i → cur ≡ over reply_code (replies_to keys) out
    fill_done h = sofar ∙ ap (λ (l : List ℕ). over reply_code (replies_to l) out) (take_all i keys h)

  -- ---- the ways out
  module _ (keys out : List ℕ) where
    abbrev too_many : Bool
    too_many = ltb most_asked (length keys)

    abbrev too_few : Bool
    too_few = ltb (length out / reply_width) (length keys)

    pub room_left : (too_many || too_few) ≡ false → length keys ≤ length out / reply_width
    room_left e = ltb-false (length out / reply_width) (length keys) (or_right too_many too_few e)

    pub many_ill_formed : formed r ≡ false → (refused 12 0, out) ≡ many_out keys out
    many_ill_formed e =
        ap (λ (o : Outcome (List (Option Said))). filled_out o.answer out)
        (ill_formed (query (lookup_many keys)) (room_for keys out) r e)

    module _ (ok : formed r ≡ true) where
      pub many_malformed : (too_many || too_few) ≡ true → (refused 11 0, out) ≡ many_out keys out
      many_malformed e = go (room_for keys out) refl
        where
          left : (b : Bool) → (b || false) ≡ true → b ≡ true
          left true q = refl
          left false q = q

          go : (t : Bool) → room_for keys out ≡ t
              → (refused 11 0, out) ≡ filled_out (run (query (lookup_many keys)) t r).answer out
          go false p =
              ap (λ (o : Outcome (List (Option Said))). filled_out o.answer out)
              (not_whole (query (lookup_many keys)) false r ok refl)
          go true p =
              ap (λ (a : Answer (List (Option Said))). filled_out a out)
              (bad_answer (lookup_many keys) r ok (left too_many
              (rw (le-ltb (length out / reply_width) (length keys) (leb-true _ _ p)) at e)))

      pub many_stands : (too_many || too_few) ≡ false → (next : List ℕ) → next ≡ over reply_code (replies_to keys) out
          → (replied tt, next) ≡ many_out keys out
      unfolding query_reply query_guards
      many_stands e next q =
          let roomy : room_for keys out ≡ true =
          le-leb (length keys) (length out / reply_width) (room_left e) in
          ap (λ (l : List ℕ). (replied tt, l)) q
          ∙ rw roomy (ap (λ (a : Answer (List (Option Said))). filled_out a out)
          (answer_is (lookup_many keys) r ok (or_left too_many too_few e) refl (replies_to keys) refl))

    -- ---- what is read back

    -- a refused call leaves every reply word
    pub many_keeps : (whole : Bool) (n k : ℕ) → (run (query (lookup_many keys)) whole r).answer ≡ refused n k
        → (filled_out (run (query (lookup_many keys)) whole r).answer out).1 ≡ out
    many_keeps whole n k e = ap (λ (a : Answer (List (Option Said))). (filled_out a out).1) e

    all_formed : Ready r → (ks : List ℕ) → all_of reply_formed (replies_to ks) ≡ true
    unfolding all_of
    all_formed g [] = refl
    all_formed g (k ∷ ks) =
        all_cons reply_formed (lookup_reply k (log_of r)) (replies_to ks) (reply_formed_lem r g k) (all_formed g ks)

    read_back : Ready r → length keys ≤ length out / reply_width → (i : ℕ) → i < length keys
        → reply_at (over reply_code (replies_to keys) out) i ≡ lookup_reply (get_or keys i 0) (log_of r)
    read_back g room i h =
        let f : ℕ → Option Said = λ (k : ℕ). lookup_reply k (log_of r) in
        let n : length (replies_to keys) ≡ length keys = length-map keys f in
        let l = over_length reply_code reply_ok (replies_to keys) out (omega (arith, n, room)) in
        reply_at_lem (over reply_code (replies_to keys) out) i (omega (arith, l, room))
        ∙ over_at reply_code reply_ok (replies_to keys) out i (f 0) (all_formed g keys) (omega (arith, n))
        ∙ get_or-map f keys i 0

    -- "each as the single lookup would give on the same state, repeated keys included"
    pub each_single : (many_out keys out).0 ≡ replied tt → (i : ℕ) → i < length keys
        → replied (reply_at (many_out keys out).1 i) ≡ (run (query (lookup (get_or keys i 0))) true r).answer
    each_single stands i h = go (formed r) (too_many || too_few) refl refl
      where
        not_refused : (n k : ℕ) → (refused n k, out) ≡ many_out keys out → ⊥
        not_refused n k e =
            let p : refused n k ≡ replied tt = ap (λ (x : Answer (Unit {0}) × List ℕ). x.0) e ∙ stands in
            let z : ◌≡◌ {A = ℕ} 0 1 = cc in omega arith

        go : (a b : Bool) → formed r ≡ a → (too_many || too_few) ≡ b
            → replied (reply_at (many_out keys out).1 i) ≡ (run (query (lookup (get_or keys i 0))) true r).answer
        go false b e m = absurd (not_refused 12 0 (many_ill_formed e))
        go true true e m = absurd (not_refused 11 0 (many_malformed e m))
        go true false e m =
            ap (λ (x : Answer (Unit {0}) × List ℕ). replied (reply_at x.1 i))
            (sym (many_stands e m (over reply_code (replies_to keys) out) refl))
            ∙ ap replied (read_back (ready_of r e) (room_left m) i h)
            ∙ sym (lookup_answer r e (get_or keys i 0))
