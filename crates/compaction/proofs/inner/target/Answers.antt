-- `compaction::inner::target` meets its contract: by how far is asked for.
use Rattle.words.proofs.Prelude.{rules, ◌≡◌, sym, ◌∙◌, ℕ, min}
use Rattle.std.specs.{Prelude.Option, Prelude.Some, Prelude.None, Option.MatchOption}
use Rattle.entry.specs.{Upto.upto_of, declared.LogIndex.LogIndex}
use Rattle.model.specs.{Numbers.Numbers, Numbers.log_decided, Compact.target}
use Rattle.model.proofs.Keeps.{target_least}
use Rattle.state_cache.specs.State.{numbers_in}
use Rattle.compaction.proofs.inner.target.Goals as goal

told : (n : Numbers) (u : Option LogIndex) (d r : ℕ) (P : LogIndex → Type 0) → d ≡ log_decided n
    → ((i : LogIndex) → P i → r ≡ min i.0 d) → MatchOption u (r ≡ d) P → r ≡ target (upto_of u) n
unfolding target
told n None d r P l each e = e ∙ l
told n (Some i) d r P l each e = rw l at (each i e) ∙ sym (target_least i.0 n)

pub returns : goal.returns
returns c =
    told (numbers_in c.args.index) c.args.upto _ _ _ c.log_decided-decided.ensures (λ i e. search rules)
    c.map_or.ensures
