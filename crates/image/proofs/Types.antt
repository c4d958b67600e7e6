-- What the types of a lent state give: numbers within their bits, and arrays of their lengths.
use Rattle.words.proofs.Prelude.{arith, ◌≡◌, refl, ap, ◌∙◌, ℕ, zero, suc, ◌+◌, ◌*◌, ◌≤◌, ◌<◌, Bool, true, false, eqb}
use Rattle.words.proofs.Prelude.{ltb, eq-eqb, lt-ltb, if◌then◌else◌, none, some, List, [], ◌∷◌, length-drop, length}
use Rattle.words.proofs.Prelude.{take, drop, get_or, length-take-le}
use Prim.Native.Nat.{◌^◌}
use mir.Syntax.{w8, w64}
use Rattle.records.specs.Big.{value}
use Rattle.records.proofs.BigLaws.{value_lt, byte}
use Rattle.records.proofs.Loops.{bytes_of}
use mir.Val.{Fits}
use Rattle.words.proofs.Tests.{both_true}
use Rattle.entry.specs.Limits.{most_nodes, most_metadata, width}
use Rattle.entry.specs.declared.Ballot.{Ballot}
use Rattle.entry.specs.declared.StopSign.{StopSign}
use Rattle.model.specs.Log.{if_given}
use Rattle.state_cache.specs.State.{Raw, formed, log_of}
use Rattle.state_cache.specs.Inner.{Ready}
use Rattle.state_cache.proofs.Stands.{ready_of}
use Rattle.image.proofs.Writing.{keys_are}
use Rattle.words.specs.All.{all_of}
use Rattle.words.specs.Coded.{entries_at}
use Rattle.words.proofs.Alls.{all_cons, all_take, all_drop}
use Rattle.entry.proofs.ChangeLaws.{change_ok}
use Rattle.entry.specs.Change.{change_code, entries_of}
use Rattle.image.specs.Typed.{are_words, ballot_typed, change_typed, sign_typed, Typed}

words_fit : (ws : List ℕ) → ((i : ℕ) → Fits w64 (get_or ws i 0)) → are_words ws ≡ true
unfolding all_of
words_fit [] h = refl
words_fit (w ∷ ws) h = all_cons (λ (x : ℕ). ltb x (2 ^ 64)) w ws (lt-ltb w (2 ^ 64) (h 0).fits)
    (words_fit ws (λ i. h (suc i)))

typed_words : (n : ℕ) (ws : List ℕ) → n * width ≤ length ws → are_words ws ≡ true
    → all_of change_typed (entries_of n ws) ≡ true
unfolding all_of entries_at
typed_words zero ws k h = refl
typed_words (suc n) ws k h =
    all_cons change_typed (change_code.dec (take width ws)) (entries_of n (drop width ws))
    (ap are_words (change_ok.forth (take width ws) (length-take-le width ws (omega arith)))
    ∙ all_take (λ (x : ℕ). ltb x (2 ^ 64)) width ws h)
    (typed_words n (drop width ws) (simp length-drop (omega arith)) (all_drop (λ (x : ℕ). ltb x (2 ^ 64)) width ws h))

pub ballot_of : (b : Ballot) → b.config_id < 2 ^ 32 → b.n < 2 ^ 32 → b.priority < 2 ^ 32 → b.pid < 2 ^ 64
    → ballot_typed b ≡ true
ballot_of b p q r s =
    both_true (ltb b.config_id (2 ^ 32)) _ (lt-ltb _ _ p)
    (both_true (ltb b.n (2 ^ 32)) _ (lt-ltb _ _ q)
    (both_true (ltb b.priority (2 ^ 32)) _ (lt-ltb _ _ r) (lt-ltb _ _ s)))

pub sign_of : (g : StopSign) → g.config_id < 2 ^ 32 → length g.nodes ≡ most_nodes
    → ((i : ℕ) → Fits w64 (get_or g.nodes i 0)) → length g.metadata ≡ most_metadata
    → ((i : ℕ) → Fits w8 (get_or g.metadata i 0)) → sign_typed g ≡ true
sign_of g p q r s t =
    both_true (ltb g.config_id (2 ^ 32)) _ (lt-ltb _ _ p)
    (both_true (eqb (length g.nodes) most_nodes) _ (eq-eqb _ _ q)
    (both_true (are_words g.nodes) _ (words_fit g.nodes r)
    (both_true (eqb (length g.metadata) most_metadata) _ (eq-eqb _ _ s) (bytes_of g.metadata t))))

sign_typed_lem : (held : Bool) (g : StopSign) → sign_typed g ≡ true
    → if_given sign_typed (if held then some g else none) ≡ true
sign_typed_lem true g e = e
sign_typed_lem false g e = refl

pub typed_of : (r : Raw) → formed r ≡ true → ballot_typed r.index.promise ≡ true
    → ballot_typed r.index.accepted_round ≡ true → sign_typed r.index.stop ≡ true
    → ((i : ℕ) → Fits w64 (get_or r.log i 0)) → ((i : ℕ) → Fits w64 (get_or r.snapshot i 0)) → Typed (log_of r)
unfolding log_of
typed_of r ok p q g l s =
    let x : Ready r = ready_of r ok in
    record {
      promise = p;
      round = q;
      entries = typed_words r.index.retained r.log (omega (arith, x.log.fits, x.log.long))
          (words_fit r.log l);
      keys =
          ap (all_of change_typed) (keys_are r ok)
          ∙ typed_words r.index.keys r.snapshot (omega (arith, x.snapshot.laid.fits, x.snapshot.laid.long))
          (words_fit r.snapshot s);
      sign = sign_typed_lem r.index.stop_held r.index.stop g;
    }

-- the number of k bytes of a slice is within its bits
pub part_below : (s : List ℕ) (at k : ℕ) → at + k ≤ length s → ((i : ℕ) → Fits w8 (get_or s i 0))
    → value (take k (drop at s)) < 256 ^ k
part_below s at k h known =
    value_lt k (take k (drop at s)) (length-take-le k (drop at s) (simp length-drop (omega arith)))
    (all_take byte k (drop at s) (all_drop byte at s (bytes_of s known)))
