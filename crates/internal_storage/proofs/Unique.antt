-- Two replies that meet a claim, and the states beside them, are one.
use Rattle.words.proofs.Prelude.{arith, ◌≡◌, sym, ap, ap₂, ℕ, List, none, some}
use Rattle.std.specs.Prelude.{Option as Optional, Some, None, Result}
use Rattle.entry.specs.{declared.LogIndex.LogIndex, declared.Refusal.Refusal}
use Rattle.model.specs.Append.{Flushed}
use Rattle.state_cache.specs.{Run.changed_at, declared.IndexRecord.IndexRecord}
use Rattle.state_cache.proofs.Unique.{Known, index_known, changed_at_unique}
use Rattle.internal_storage.specs.{Replies.flushed_is, Replies.maybe_at, declared.Flushed.Flushed as CodeFlushed}

-- nothing is not something
none_apart : {A B : Type 0} (y : A) → none ≡ some y → B
none_apart y e = let z : ◌≡◌ {A = ℕ} 0 1 = cc in absurd (omega arith)

flushed_known : Known flushed_is
flushed_known None None e = cc
flushed_known None (Some g) e = none_apart _ e
flushed_known (Some f) None e = none_apart _ (sym e)
flushed_known (Some f) (Some g) e =
    let p : ◌≡◌ {A = Flushed} (record { accepted = f.accepted.0; count = f.entries })
    (record { accepted = g.accepted.0; count = g.entries }) = cc in
    let i : f.accepted ≡ g.accepted = index_known f.accepted g.accepted (ap (λ (x : Flushed). x.accepted) p) in
    let n : f.entries ≡ g.entries = ap (λ (x : Flushed). x.count) p in
    ap₂ (λ (a : LogIndex) (k : ℕ). Some (record { accepted = a; entries = k })) i n

maybe_known : Known maybe_at
maybe_known None None e = cc
maybe_known None (Some j) e = none_apart _ e
maybe_known (Some i) None e = none_apart _ (sym e)
maybe_known (Some i) (Some j) e = ap Some (index_known i j cc)

module _ (old : IndexRecord) (l m s t : List ℕ) where
  pub appended_unique : (a b : Result (IndexRecord × Optional CodeFlushed) Refusal)
      → changed_at flushed_is old a l s ≡ changed_at flushed_is old b m t → (a ≡ b) × ((l ≡ m) × (s ≡ t))
  appended_unique = changed_at_unique old l m s t flushed_is flushed_known

  pub maybe_index_unique : (a b : Result (IndexRecord × Optional LogIndex) Refusal)
      → changed_at maybe_at old a l s ≡ changed_at maybe_at old b m t → (a ≡ b) × ((l ≡ m) × (s ≡ t))
  maybe_index_unique = changed_at_unique old l m s t maybe_at maybe_known
