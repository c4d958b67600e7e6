-- The request: what each operation needs, the parts lent beside the list, and refusal 11.
use Rattle.words.proofs.Prelude.{arith, ◌≡◌, refl, sym, ap, ap₂, ◌∙◌, ℕ, ◌≤◌, ◌<◌, Bool, true, false}
use Rattle.words.proofs.Prelude.{true≢false, ◌&&◌, ◌||◌, not, eqb, leb, eqb-true, le-leb, lt-leb, leb-true}
use Rattle.words.proofs.Prelude.{if◌then◌else◌, none, some, List, [], ◌∷◌, map, length-map, length, take}
use Rattle.words.proofs.Prelude.{length-take-le}
use Rattle.std.specs.List.{list_all}
use Rattle.words.specs.All.{all_of}
use Rattle.words.proofs.{Tests.and_left, Tests.and_right, Tests.both_true, CodedLaws.entries_length}
use Rattle.entry.specs.{Limits.snapshot_words, Limits.most_ops, Change.change_code, Change.entries_formed, Change.entries_of}
use Rattle.entry.specs.{Change.entries_in, Change.whole_in, Change.slice_formed, Sign.sign_formed, Guards.refused}
use Rattle.entry.specs.{declared.StopSign.StopSign}
use Rattle.snapshot.specs.Calls.{snapshot_formed}
use Rattle.snapshot.proofs.Calling.{snapshot_holds}
use Rattle.model.specs.Log.{if_given, keys_formed}
use Rattle.model.specs.Backend.{Op, append_entries, append_on_prefix, set_decided, set_compacted, trim, set_promise, set_round}
use Rattle.model.specs.Backend.{set_sign, set_snapshot, Lent, supplied, ops_formed}
use Rattle.model.specs.Calls.{write, malformed}
use Rattle.model.proofs.Forms.{of_snapshot}
use Rattle.state_cache.specs.{State.Raw, State.formed, Run.outcome, Run.run}
use Rattle.state_cache.proofs.{Stands.ready_of, Stands.given_by, Runs.not_whole, Runs.bad_call}
use Rattle.backend.specs.{declared.Op.Op as CodeOp}
use Rattle.backend.specs.{declared.OpList.OpList, declared.Lent.Lent as CodeLent, Ops.op_of, Ops.ops_in}
use Rattle.backend.specs.{Ops.lent_of, Ops.incoming_formed, Ops.whole_lent, Ops.whole_list, Inner.Lends, Inner.Listed}

-- what a request in form lends
module _ (b : CodeLent) (entries incoming : List ℕ) (f : Lends b entries incoming) where
  pub long_incoming : length incoming ≡ snapshot_words
  unfolding incoming_formed
  long_incoming = eqb-true (length incoming) snapshot_words
      (and_left (eqb (length incoming) snapshot_words)
      (not b.snapshot_lent || snapshot_formed b.keys incoming) f.snapshot)

-- the operations of a list by value, one after the other
module _ (ops : List CodeOp) (n : ℕ) (few : n ≤ most_ops) (eight : length ops ≡ most_ops) where
  pub ops_length : length (map op_of (take n ops)) ≡ n
  ops_length = length-map (take n ops) op_of ∙ length-take-le n ops (omega arith)

-- a test of each operation, as std has it
pub all_ops : (t : Op → Bool) (os : List CodeOp) → list_all (λ (o : CodeOp). t (op_of o)) os ≡ all_of t (map op_of os)
unfolding all_of
all_ops t [] = refl
all_ops t (o ∷ os) = ap (λ (u : Bool). t (op_of o) && u) (all_ops t os)

-- ---- the tests of a request, in the code's order and in the model's

all_same : {A : Type 0} (f g : A → Bool) → ((x : A) → f x ≡ g x) → (l : List A) → all_of f l ≡ all_of g l
unfolding all_of
all_same f g e [] = refl
all_same f g e (x ∷ l) = ap₂ (λ (s t : Bool). s && t) (e x) (all_same f g e l)

-- whether an operation is supplied is known without the lent words
supplied_any : (b : CodeLent) (entries incoming : List ℕ) (o : Op)
    → supplied (lent_of b [] []) o ≡ supplied (lent_of b entries incoming) o
supplied_any b entries incoming append_entries = refl
supplied_any b entries incoming (append_on_prefix i) = refl
supplied_any b entries incoming (set_decided i) = refl
supplied_any b entries incoming (set_compacted i) = refl
supplied_any b entries incoming (trim i) = refl
supplied_any b entries incoming (set_promise x) = refl
supplied_any b entries incoming (set_round x) = refl
supplied_any b entries incoming (set_sign t) = refl
supplied_any b entries incoming (set_snapshot t) =
    ap (λ (u : Bool). not t || u) (given_by b.snapshot_lent (entries_of b.keys [])
    ∙ sym (given_by b.snapshot_lent (entries_of b.keys incoming)))

-- a snapshot that is lent in form
snapshot_lent : (b : CodeLent) (entries incoming : List ℕ) → incoming_formed b incoming ≡ true
    → if_given keys_formed (lent_of b entries incoming).snapshot ≡ true
unfolding incoming_formed
snapshot_lent b entries incoming e =
    go b.snapshot_lent (and_right (eqb (length incoming) snapshot_words)
    (not b.snapshot_lent || snapshot_formed b.keys incoming) e)
  where
    go : (t : Bool) → (not t || snapshot_formed b.keys incoming) ≡ true
        → if_given keys_formed (if t then some (entries_of b.keys incoming) else none) ≡ true
    go true q =
        let h = snapshot_holds b.keys incoming q in
        of_snapshot (entries_of b.keys incoming) (record { rises = h.rises; fine = h.laid.fine })
        (omega (arith, entries_length change_code b.keys incoming, h.laid.fits))
    go false q = refl

sign_lent : (t : Bool) (g : StopSign) → (not t || sign_formed g) ≡ if_given sign_formed (if t then some g else none)
sign_lent true g = refl
sign_lent false g = refl

-- W and E of the entries, I and G of the snapshot, S of the stop-sign, C of the count, A of the operations
shuffle : (W E I S C A G : Bool) → (I ≡ true → G ≡ true)
    → (W && E && (I && (S && (C && A)))) ≡ (W && I && true && (C && true && (E && (G && (S && A)))))
shuffle false E I S C A G h = refl
shuffle true false true S true A G h = refl
shuffle true false true S false A G h = refl
shuffle true false false S C A G h = refl
shuffle true true false S C A G h = refl
shuffle true true true true true A true h = refl
shuffle true true true true false A true h = refl
shuffle true true true false true A true h = refl
shuffle true true true false false A true h = refl
shuffle true true true S C A false h = absurd (true≢false (sym (h refl)))

module _ (b : CodeLent) (entries incoming : List ℕ) (list : OpList) where
  abbrev lent : Lent
  lent = lent_of b entries incoming

  abbrev whole : Bool
  whole = whole_list b entries incoming list

  -- over eight operations
  pub too_many : most_ops < list.count → false ≡ (whole && ops_formed lent (ops_in list))
  too_many h = rw (lt-leb list.count most_ops h) (sym (go (whole_lent b entries incoming)))
    where
      go : (t : Bool) → (t && false && ops_formed lent (ops_in list)) ≡ false
      go true = refl
      go false = refl

  module _ (few : list.count ≤ most_ops) (eight : length list.ops ≡ most_ops) where
    pub request_is : (slice_formed entries && (incoming_formed b incoming && ((not b.stop_lent
        || sign_formed b.stop) && (leb 1 list.count && all_of (supplied (lent_of b [] [])) (ops_in list)))))
        ≡ (whole && ops_formed lent (ops_in list))
    unfolding slice_formed whole_lent ops_formed
    request_is =
        rw (
          ops_length list.ops list.count few eight,
          le-leb list.count most_ops few,
          all_same (supplied (lent_of b [] [])) (supplied lent) (supplied_any b entries incoming) (ops_in list),
          sign_lent b.stop_lent b.stop,
        )
        (shuffle (whole_in entries) (entries_formed (entries_in entries)) (incoming_formed b incoming)
        (if_given sign_formed lent.sign) (leb 1 list.count) (all_of (supplied lent) (ops_in list))
        (if_given keys_formed lent.snapshot) (snapshot_lent b entries incoming))

  -- what a request in form is known to be, and one that is not is refused
  lends_of : whole_lent b entries incoming ≡ true → ops_formed lent (ops_in list) ≡ true → Lends b entries incoming
  unfolding whole_lent ops_formed slice_formed
  lends_of p f =
      let f₁ = and_right (leb 1 (length (ops_in list)) && leb (length (ops_in list)) most_ops) _ f in
      let f₂ = and_right (entries_formed (entries_in entries)) _ f₁ in
      let f₃ = and_right (if_given keys_formed lent.snapshot) _ f₂ in
      record {
        whole = both_true (whole_in entries) (entries_formed (entries_in entries))
            (and_left (whole_in entries) (incoming_formed b incoming) p)
            (and_left (entries_formed (entries_in entries)) _ f₁);
        snapshot = and_right (whole_in entries) (incoming_formed b incoming) p;
        sign = and_left (if_given sign_formed lent.sign) _ f₃;
      }

  module _ (r : Raw) (ok : formed r ≡ true) where
    pub listed_of : (whole && ops_formed lent (ops_in list)) ≡ true → Listed r b entries incoming list
    listed_of e =
        let w = and_left whole (ops_formed lent (ops_in list)) e in
        let f = and_right whole (ops_formed lent (ops_in list)) e in
        let p = and_left (whole_lent b entries incoming) (leb list.count most_ops) w in
        record {
          ready = ready_of r ok;
          lends = lends_of p f;
          few = leb-true list.count most_ops (and_right (whole_lent b entries incoming) (leb list.count most_ops) w);
          okay = f;
        }

    pub request_refused : (whole && ops_formed lent (ops_in list)) ≡ false
        → outcome (refused 11 0) r ≡ run (write lent (ops_in list)) whole r
    request_refused e = go whole refl
      where
        go : (t : Bool) → whole ≡ t → outcome (refused 11 0) r ≡ run (write lent (ops_in list)) t r
        go true q = bad_call (write lent (ops_in list)) r ok
            (unfold malformed in ap not (ap (λ (t : Bool). t && ops_formed lent (ops_in list)) (sym q) ∙ e))
        go false q = not_whole (write lent (ops_in list)) false r ok refl

    pub request_run : (whole && ops_formed lent (ops_in list)) ≡ true
        → run (write lent (ops_in list)) true r ≡ run (write lent (ops_in list)) whole r
    request_run e = ap (λ (t : Bool). run (write lent (ops_in list)) t r)
        (sym (and_left whole (ops_formed lent (ops_in list)) e))
