-- Document 01's thirteen cases: one table, what each call answers beside what the document says.
use Rattle.std.specs.Prelude.{ℕ, false, List, [], ◌∷◌, replicate}
use Rattle.std.proofs.Math.Option.{Option, none, some}
use Rattle.entry.specs.Limits.{most_metadata}
use Rattle.entry.specs.Change.{Change, place, removed}
use Rattle.entry.specs.Order.{no_ballot}
use Rattle.entry.specs.Guards.{Answer, refused, replied}
use Rattle.entry.specs.declared.StopSign.{StopSign}
use Rattle.entry.specs.declared.Compaction.TheVariants.{Trim}
use Rattle.snapshot.specs.Folds.{fold}
use Rattle.model.specs.Log.{Log, with_run, fresh_log}
use Rattle.model.specs.Append.{Flushed}
use Rattle.model.specs.Read.{included, excluded, trimmed, span, no_span, Shown, shown, empty_run}
use Rattle.model.specs.Calls.{read, query, append, Call, compact, answer_to, state_after}

abbrev pub put : ℕ → ℕ → Change
put k p = record { key = k; said = place p }

abbrev pub del : ℕ → Change
del k = record { key = k; said = removed }

-- "node 1 and no metadata"
abbrev pub sign7 : StopSign
sign7 = record {
  config_id = 7;
  node_count = 1;
  nodes = 1 ∷ replicate 6 0;
  metadata_held = false;
  metadata_len = 0;
  metadata = replicate most_metadata 0;
}

-- the three replay entries
abbrev pub three : List Change
three = put 9 100 ∷ put 4 200 ∷ del 9 ∷ []

-- "Log L: compacted 2, no snapshot (its marker is trimmed 2), entries 2 to 4, decided 4, stop-sign, accepted 6",
-- with its decided index
unfoldable pub log_l : ℕ → Log
log_l d = record {
  run = record { compacted = 2; retained = three; held = none };
  tail = record { batched = []; size = 0; sign = some sign7 };
  marks = record { decided = d; promise = no_ballot; round = no_ballot };
}

-- what is seen of a call: a read's answer; a trim's or an append's, and the whole state after it; and a fold
pub data Seen : Type 0 where
  reads : Answer (Option Shown) → Seen
  trims : Answer (Unit {0}) → Log → Seen
  appends : Answer (Option Flushed) → Log → Seen
  folds : List Change → Seen

pub record Case : Type 0 where
  pub seen : Seen
  pub due : Seen

abbrev pub read_case : ℕ → ℕ → Option Shown → Case
read_case a b r =
    record { seen = reads (answer_to (query (read (included a) (excluded b))) (log_l 4)); due = reads (replied r) }

abbrev pub trim : ℕ → Call
trim i = compact Trim (some i)

abbrev pub trim_case : ℕ → Answer (Unit {0}) → Log → Case
trim_case i a s = record { seen = trims (answer_to (trim i) (log_l 6)) (state_after (trim i) (log_l 6)); due = trims a s }

-- R1 to R9, T1, T2, F1, B1
abbrev pub table : List Case
table =
    read_case 0 0 none
    ∷ read_case 9 2 (some (shown (some (trimmed 2)) no_span 0 none false))
    ∷ read_case 2 5 (some (shown none (span 0 three) 2 none false))
    ∷ read_case 0 6 (some (shown (some (trimmed 2)) (span 0 three) 2 (some sign7) false))
    ∷ read_case 5 6 (some (shown none (span 3 []) 0 (some sign7) false))
    ∷ read_case 5 5 (some empty_run)
    ∷ read_case 4 3 (some empty_run)
    ∷ read_case 2 7 none
    ∷ read_case 6 6 none
    ∷ trim_case 6 (replied tt) (with_run (record { compacted = 5; retained = []; held = none }) (log_l 6))
    ∷ trim_case 7 (refused 2 6) (log_l 6)
    ∷ record { seen = folds (fold three); due = folds (put 4 200 ∷ del 9 ∷ []) }
    ∷ record {
      seen =
          appends (answer_to (append (put 9 100 ∷ [])) (fresh_log 0)) (state_after (append (put 9 100 ∷ [])) (fresh_log 0));
      due =
          appends (replied (some (record { accepted = 1; count = 1 })))
          (with_run (record { compacted = 0; retained = put 9 100 ∷ []; held = none }) (fresh_log 0));
    }
    ∷ []
