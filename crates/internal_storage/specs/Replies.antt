-- What the replies say in document 01's words.
use Rattle.std.specs.Prelude.{ℕ, Option as Optional, Some, None}
use Rattle.std.proofs.Math.Option.{Option, none, some}
use Rattle.entry.specs.Guards.{Answer, refused, replied}
use Rattle.entry.specs.declared.LogIndex.{LogIndex}
use Rattle.entry.specs.declared.StopSign.{StopSign}
use Rattle.model.specs.Append.{Flushed}
use Rattle.state_cache.specs.Run.{Outcome, outcome}
use Rattle.internal_storage.specs.declared.Flushed.{Flushed as CodeFlushed}

abbrev pub flushed_is : Optional CodeFlushed → Option Flushed
flushed_is None = none
flushed_is (Some f) = some (record { accepted = f.accepted.0; count = f.entries })

-- of what was flushed the accepted index alone, and an outcome that says no more
abbrev pub maybe_at : Optional LogIndex → Option ℕ
maybe_at None = none
maybe_at (Some i) = some i.0

abbrev pub index_only : Answer (Option Flushed) → Answer (Option ℕ)
index_only (replied none) = replied none
index_only (replied (some f)) = replied (some f.accepted)
index_only (refused n k) = refused n k

abbrev pub with_index_only : Outcome (Option Flushed) → Outcome (Option ℕ)
with_index_only o = outcome (index_only o.answer) o.after

-- the stop-sign to be set, or none
abbrev pub sign_is : Optional StopSign → Option StopSign
sign_is None = none
sign_is (Some g) = some g
