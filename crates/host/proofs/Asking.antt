-- What a flag and a value beside it ask for, as the library takes it.
use Rattle.words.proofs.Prelude.{◌≡◌, refl, ap, ◌∙◌, Bool, true, false, Option}
use Rattle.std.specs.Prelude.{Option as Optional}
use Rattle.std.specs.Bool.{then_some}
use Rattle.entry.specs.{Upto.upto_of, declared.LogIndex.LogIndex, declared.StopSign.StopSign}
use Rattle.internal_storage.specs.Replies.{sign_is}
use Rattle.host.specs.Requests.{of_flag}

pub asked_upto : (given : Bool) (i : LogIndex) {o : Optional LogIndex} → o ≡ then_some given i
    → upto_of o ≡ of_flag given i.0
asked_upto given i e = ap upto_of e ∙ go given
  where
    go : (t : Bool) → upto_of (then_some t i) ≡ of_flag t i.0
    go true = refl
    go false = refl

pub asked_sign : (held : Bool) (g : StopSign) {o : Optional StopSign} → o ≡ then_some held g
    → sign_is o ≡ of_flag held g
asked_sign held g e = ap sign_is e ∙ go held
  where
    go : (t : Bool) → sign_is (then_some t g) ≡ of_flag t g
    go true = refl
    go false = refl
