-- The derived equality tells a stop-sign that stands for none.
use Rattle.words.proofs.Prelude.{◌≡◌, refl, sym, ap, ap₂, ◌∙◌, ℕ, zero, suc, Bool, true, false, ◌&&◌, not, eqb}
use Rattle.words.proofs.Prelude.{List, [], ◌∷◌, length, replicate}
use lib.{Pointwise.pointwise, Dec.eqb-suc-suc, Dec.eqb-suc-zero, Dec.eqb-zero-suc}
use mathlib.Core.Bool.{beq}
use Rattle.words.specs.{All.all_of, Words.all_zero}
use Rattle.entry.specs.{Limits.most_nodes, Limits.most_metadata, Sign.no_sign, Sign.blank, Sign.sign_blank}
use Rattle.entry.specs.declared.StopSign.{StopSign}
use Rattle.entry.specs.contracts.StopSignPartialEq.TheImpl as derived

swap : (a b c : Bool) → (a && (b && c)) ≡ (b && (a && c))
swap true b c = refl
swap false true c = refl
swap false false c = refl

-- an array of zeros
same_zeros : (n : ℕ) (l : List ℕ) → pointwise eqb l (replicate n 0) ≡ blank n l
unfolding blank all_of
same_zeros zero [] = refl
same_zeros zero (x ∷ l) = rw (eqb-suc-zero (length l)) refl
same_zeros (suc n) [] = rw (eqb-zero-suc n) refl
same_zeros (suc n) (x ∷ l) =
    ap (λ (t : Bool). eqb x 0 && t) (same_zeros n l)
    ∙ swap (eqb x 0) (eqb (length l) n) (all_zero l)
    ∙ ap (λ (t : Bool). t && (eqb x 0 && all_zero l)) (sym (eqb-suc-suc (length l) n))

-- the tests in the order of the fields, and in the definition's
reorder : (p h m q : Bool) → (p && (beq h false && (m && q))) ≡ (m && (not h && (p && q)))
reorder p true m q = swap p false (m && q) ∙ swap false m (p && q)
reorder p false m q = swap p m q

pub same_none : (s : StopSign) → derived.ghosts.eq s no_sign ≡ sign_blank s
unfolding sign_blank
same_none s =
    let nodes = pointwise eqb s.nodes (replicate most_nodes 0) in
    let bytes = pointwise eqb s.metadata (replicate most_metadata 0) in
    ap (λ (t : Bool). eqb s.config_id 0 && (eqb s.node_count 0 && t))
    (reorder nodes s.metadata_held (eqb s.metadata_len 0) bytes
    ∙ ap₂ (λ (p q : Bool). eqb s.metadata_len 0 && (not s.metadata_held && (p && q))) (same_zeros most_nodes s.nodes)
    (same_zeros most_metadata s.metadata))
