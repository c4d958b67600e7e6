-- Entry slices as arguments of a call: refusal 11, or whole entries in form. And one entry.
use Rattle.words.proofs.Prelude.{arith, ◌≡◌, refl, sym, ap, ◌∙◌, ℕ, ◌/◌, Bool, true, false, not, List, [], ◌∷◌, length}
use Rattle.words.specs.All.{all_of}
use Rattle.words.proofs.Tests.{and_left}
use Rattle.entry.specs.{Limits.width, Change.Change, Change.change_formed, Change.entries_formed, Change.entries_in}
use Rattle.entry.specs.{Change.whole_in, Change.slice_formed, Inner.LentAs, Guards.refused}
use Rattle.entry.proofs.SliceLaws.{slice_whole, slice_fine}
use Rattle.model.specs.Calls.{Call, append, malformed}
use Rattle.state_cache.specs.{State.Raw, State.formed, Run.outcome, Run.run}
use Rattle.state_cache.proofs.{Stands.ready_of, Runs.ill_formed, Runs.not_whole, Runs.bad_call}
use Rattle.internal_storage.specs.Inner.{Appends}

pub slice_refused : (c : Call) (ws : List ℕ) (r : Raw) → malformed c ≡ not (entries_formed (entries_in ws))
    → formed r ≡ true → slice_formed ws ≡ false
    → outcome (refused 11 0) r ≡ run c (whole_in ws) r
unfolding slice_formed
slice_refused c ws r m ok e = go (whole_in ws) refl
  where
    go : (t : Bool) → whole_in ws ≡ t → outcome (refused 11 0) r ≡ run c t r
    go true q = bad_call c r ok (m ∙ ap not (rw q at e))
    go false q = not_whole c false r ok refl

pub slice-run : (c : Call) (ws : List ℕ) (r : Raw) → slice_formed ws ≡ true → run c true r ≡ run c (whole_in ws) r
unfolding slice_formed
slice-run c ws r e = ap (λ (t : Bool). run c t r) (sym (and_left (whole_in ws) _ e))

pub slice_appends : (ws : List ℕ) (r : Raw) → formed r ≡ true → slice_formed ws ≡ true → Appends r (length ws / width)
    ws
slice_appends ws r ok e =
    record { ready = ready_of r ok; whole = omega (arith, slice_whole ws e); fine = slice_fine ws e }

-- one entry, by the words that it is lent as
pub one_run : (c : Change) (ws : List ℕ) → LentAs c ws → (r : Raw)
    → run (append (entries_in ws)) (whole_in ws) r ≡ run (append (c ∷ [])) true r
unfolding malformed all_of
one_run c ws l r = ap (λ (t : Bool). run (append (entries_in ws)) t r) l.whole ∙ go (change_formed c) refl
  where
    refused_both : change_formed c ≡ false → (t : Bool) → formed r ≡ t
        → run (append (entries_in ws)) true r ≡ run (append (c ∷ [])) true r
    refused_both e true ok = sym (bad_call (append (entries_in ws)) r ok (ap not (l.same_form ∙ e)))
        ∙ bad_call (append (c ∷ [])) r ok (rw e)
    refused_both e false bad = sym (ill_formed (append (entries_in ws)) true r bad)
        ∙ ill_formed (append (c ∷ [])) true r bad

    go : (t : Bool) → change_formed c ≡ t → run (append (entries_in ws)) true r ≡ run (append (c ∷ [])) true r
    go true e = ap (λ (es : List Change). run (append es) true r) (l.same_entry e)
    go false e = refused_both e (formed r) refl
