-- What the program starts from, where nothing is told.
use Rattle.words.proofs.Prelude.{◌≡◌, refl, sym, ap, ◌∙◌, List, ℕ, length, eq-eqb}
use Rattle.std.specs.Prelude.{Result, Ok, Err, Some}
use Rattle.entry.specs.{Limits.log_words, Limits.snapshot_words, declared.Refusal.Refusal}
use Rattle.entry.specs.Guards.{replied}
use Rattle.entry.proofs.RefusalLaws.{apart}
use Rattle.model.specs.Log.{fresh_log}
use Rattle.state_cache.specs.{State.raw, State.raw_of, State.index_of, declared.IndexRecord.IndexRecord}
use Rattle.state_cache.specs.Run.{Outcome, outcome, changed, fresh_call}
use Rattle.replay.specs.{Told.untold, File.Began, File.Begins, File.Fresh, declared.told.Told.Told}
use Rattle.replay.specs.declared.file.Given.{Given}
use Rattle.replay.specs.declared.file.Given.TheVariants as goal

-- slices of a log's lengths are no refusal's, at batch size 0
module _ (log snapshot l s : List ℕ) (h : length log ≡ log_words) (k : length snapshot ≡ snapshot_words) where
  starts : fresh_call 0 log snapshot ≡ outcome (replied tt) (raw_of (fresh_log 0))
  unfolding fresh_call
  starts = rw (eq-eqb (length log) log_words h, eq-eqb (length snapshot) snapshot_words k)

  pub fresh_made : (made : Result IndexRecord Refusal)
      → changed (index_of (fresh_log 0)) made l s ≡ fresh_call 0 log snapshot
      → (index : IndexRecord) × (made ≡ Ok index) × Fresh (raw index l s)
  fresh_made (Ok x) e = (x, refl, ap (λ (o : Outcome (Unit {0})). o.after) (e ∙ starts))
  fresh_made (Err r) e = apart _ _ _ (sym (ap (λ (o : Outcome (Unit {0})). o.answer) (e ∙ starts)))

module _ (log snapshot : List ℕ) (index : IndexRecord) where
  begun : (g : Given) → Began g (Ok index) log snapshot → Begins g (raw index log snapshot)
  begun goal.Nothing (y, e, p) =
      let same : index ≡ y = cc in rw same p
  begun (goal.File n) p = p
  begun goal.NoName p = absurd cc

  -- where none was told there is a log
  pub begins : (g : Given) (r : Result IndexRecord Told) → Some index ≡ untold r → Began g r log snapshot
      → Begins g (raw index log snapshot)
  begins g (Ok y) e p =
      let same : index ≡ y = cc in begun g (rw (sym same) at p)
  begins g (Err t) e p = absurd cc
