-- A call by value from the one on the record where it stands: where that one is refused, the record is as it was lent.
use Rattle.words.proofs.Prelude.{◌≡◌, sym, ap, ◌∙◌, ℕ, Bool, List, Option, none, some}
use Rattle.entry.specs.Change.{Change}
use Rattle.entry.specs.Guards.{Verdict, passes, refuses, Answer, refused, replied}
use Rattle.entry.proofs.RefusalLaws.{apart}
use Rattle.model.specs.Append.{Flushed}
use Rattle.model.specs.Calls.{Call, Reply, append}
use Rattle.state_cache.specs.{State.Raw, State.raw, Run.Outcome, Run.outcome, Run.chosen, Run.verdict_on, Run.run}
use Rattle.internal_storage.specs.Replies.{index_only, with_index_only}

module _ (c : Call) (whole : Bool) (r : Raw) (n k : ℕ) (x : Raw) where
  stayed : outcome (refused n k) x ≡ run c whole r → x ≡ r
  unfolding run
  stayed e = go (verdict_on c whole r) _ _ e
    where
      go : (v : Verdict) (y : Reply c) (next : Raw) → outcome (refused n k) x ≡ chosen v y next r → x ≡ r
      go passes y next q = apart y n k (sym (ap (λ (o : Outcome (Reply c)). o.answer) q))
      go (refuses m j) y next q = ap (λ (o : Outcome (Reply c)). o.after) q

  pub handed_back : outcome (refused n k) x ≡ run c whole r
      → outcome (refused n k) (raw r.index x.log x.snapshot) ≡ run c whole r
  handed_back e =
      ap (λ (z : Raw). outcome {A = Reply c} (refused n k) (raw z.index x.log x.snapshot)) (sym (stayed e)) ∙ e

-- the same of an append that tells the accepted index alone
refused_whole : (a : Answer (Option Flushed)) (n k : ℕ) → refused n k ≡ index_only a → refused n k ≡ a
refused_whole (replied none) n k e = apart none n k (sym e)
refused_whole (replied (some f)) n k e = apart (some f.accepted) n k (sym e)
refused_whole (refused m j) n k e = cc

refused_so : (o : Outcome (Option Flushed)) (n k : ℕ) (x : Raw) → outcome (refused n k) x ≡ with_index_only o
    → outcome (refused n k) x ≡ o
refused_so o n k x e =
    let p = refused_whole o.answer n k (ap (λ (z : Outcome (Option ℕ)). z.answer) e) in
    ap (λ (z : Answer (Option Flushed)). outcome z x) p
    ∙ ap (λ (z : Raw). outcome o.answer z) (ap (λ (z : Outcome (Option ℕ)). z.after) e)

pub index_handed_back : (c : List Change) (whole : Bool) (r : Raw) (n k : ℕ) (x : Raw)
    → outcome (refused n k) x ≡ with_index_only (run (append c) whole r)
    → outcome (refused n k) (raw r.index x.log x.snapshot) ≡ with_index_only (run (append c) whole r)
index_handed_back c whole r n k x e =
    ap with_index_only (handed_back (append c) whole r n k x (refused_so (run (append c) whole r) n k x e))
