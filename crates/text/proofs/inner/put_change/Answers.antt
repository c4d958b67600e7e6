-- `text::inner::put_change` meets its contract: by what is said of the key.
use Rattle.words.proofs.Prelude.{rules}
use Rattle.words.proofs.Prelude.{◌∙◌, append_assoc}
use Rattle.text.proofs.inner.put_change.Goals as goal

pub returns-in-Place : goal.returns-in-Place
returns-in-Place c =
    record {
      upper_bound = search rules;
      out_after = rw c.in-Place.is (c.put_two.ensures.out_after ∙ simp append_assoc);
    }

pub returns-in-Removed : goal.returns-in-Removed
returns-in-Removed c =
    record {
      upper_bound = search rules;
      out_after = rw c.in-Removed.is (c.put_one.ensures.out_after ∙ simp append_assoc);
    }
