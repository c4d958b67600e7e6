-- "A replay, whole": what a line of input prints and the state after it, of any state.
use Rattle.std.specs.Prelude.{ℕ, ◌+◌, ◌-◌, Bool, true, false, List, [], ◌∷◌, ◌++◌, length, replicate}
use Rattle.std.specs.Prelude.{Result, Ok, Err}
use Rattle.std.proofs.Math.Option.{Option, none, some}
use Rattle.entry.specs.Limits.{most_nodes, most_metadata}
use Rattle.entry.specs.Change.{Change, Said as SaidOf, place, removed, entries_in}
use Rattle.entry.specs.Upto.{upto_of}
use Rattle.entry.specs.Guards.{Answer, refused, replied}
use Rattle.entry.specs.Refusals.{number_of}
use Rattle.entry.specs.declared.Refusal.{Refusal}
use Rattle.entry.specs.declared.StopSign.{StopSign}
use Rattle.model.specs.Numbers.{accepted_of}
use Rattle.model.specs.Log.{given}
use Rattle.model.specs.Append.{Flushed}
use Rattle.model.specs.Read.{included, excluded, Marker, trimmed, snapshotted, span, Shown, shown}
use Rattle.model.specs.Calls.{query, read, lookup, append, flush, append_stop, decide, compact}
use Rattle.state_cache.specs.State.{Raw, raw, one_if}
use Rattle.state_cache.specs.declared.IndexRecord.{IndexRecord}
use Rattle.state_cache.specs.Run.{Outcome, run, fresh_call, of_numbers}
use Rattle.text.specs.Answers.{line_of, entry_lines}
use Rattle.text.specs.declared.Line.TheVariants.{Done, Held, Nothing, BadLine, Accepted, Refused, Run, Trimmed}
use Rattle.text.specs.declared.Line.TheVariants.{Snapshot, Stop, Place, Removed, Unknown}
use Rattle.text.specs.declared.Command.{Command}
use Rattle.text.specs.declared.Command.TheVariants as command
use Rattle.reading.specs.Parts.{part}
use Rattle.reading.specs.Replies.{run_is}
use Rattle.replay.specs.declared.answer.Reply.{Reply}
use Rattle.replay.specs.declared.answer.Reply.TheVariants as reply

-- the bytes printed, and the state after
pub record Printout : Type 0 where
  pub text : List ℕ
  pub after : Raw

abbrev pub printout : List ℕ → Raw → Printout
printout bs r = record { text = bs; after = r }

-- what is printed of an answer
abbrev pub settled_text : Answer (Unit {0}) → List ℕ
settled_text (refused n k) = line_of (Refused n)
settled_text (replied u) = line_of Done

abbrev pub accepted_text : Answer ℕ → List ℕ
accepted_text (refused n k) = line_of (Refused n)
accepted_text (replied i) = line_of (Accepted i)

abbrev pub appended_text : Answer (Option Flushed) → List ℕ
appended_text (refused n k) = line_of (Refused n)
appended_text (replied none) = line_of Held
appended_text (replied (some f)) = line_of (Accepted f.accepted)

-- document 02: "`find K` printing `place P`, `removed` or `unknown`"
abbrev pub found_text : Answer (Option SaidOf) → List ℕ
found_text (refused n k) = line_of (Refused n)
found_text (replied none) = line_of Unknown
found_text (replied (some (place p))) = line_of (Place p)
found_text (replied (some removed)) = line_of Removed

-- "index and key count after `snapshot`; `trimmed I` otherwise"
abbrev pub marker_text : Option Marker → List ℕ
marker_text none = []
marker_text (some (trimmed i)) = line_of (Trimmed i)
marker_text (some (snapshotted i es)) = line_of (Snapshot i (length es))

-- "an undecided stop prints `no`"
abbrev pub stop_text : Option StopSign → Bool → List ℕ
stop_text none decided = []
stop_text (some g) decided = line_of (Stop g.config_id decided)

-- "`run` counts the lines after it"
abbrev pub lines_in : Shown → ℕ
lines_in v = one_if (given v.marker) + length v.part.entries + one_if (given v.stop)

unfoldable pub shown_text : Shown → List ℕ
shown_text v =
    line_of (Run (lines_in v))
    ++ marker_text v.marker
    ++ entry_lines v.decided v.part.entries
    ++ stop_text v.stop v.stop_decided

abbrev pub read_text : Answer (Option Shown) → List ℕ
read_text (refused n k) = line_of (Refused n)
read_text (replied none) = line_of Nothing
read_text (replied (some v)) = shown_text v

-- the same with the entries of the words that the part names: what the program has at hand
abbrev pub in_log : List ℕ → Shown → Shown
in_log log v =
    shown v.marker (span v.part.first (entries_in (part v.part.first (length v.part.entries) log)))
    v.decided v.stop v.stop_decided

abbrev pub read_text_in : List ℕ → Answer (Option Shown) → List ℕ
read_text_in log (refused n k) = line_of (Refused n)
read_text_in log (replied none) = line_of Nothing
read_text_in log (replied (some v)) = shown_text (in_log log v)

-- a command's answer, beside the state after it
abbrev pub reply_text : Raw → Reply → List ℕ
reply_text x (reply.Line l) = line_of l
reply_text x (reply.Read r) = read_text_in x.log (replied (run_is x r))

abbrev pub telling : Reply → Raw → Printout
telling r x = printout (reply_text x r) x

-- a command's answer: where it is refused the number is printed, and the record is the one that it was done on
abbrev pub answered : IndexRecord → Result (IndexRecord × Reply) Refusal → List ℕ → List ℕ → Printout
answered old (Ok (next, r)) log snapshot = telling r (raw next log snapshot)
answered old (Err e) log snapshot = printout (line_of (Refused (number_of e))) (raw old log snapshot)

-- a call's answer printed
abbrev pub printed : {A : Type 0} → (Answer A → List ℕ) → Outcome A → Printout
printed text o = printout (text o.answer) o.after

-- "`batch N` starts a fresh log"; one above 64 "prints `refused 11` and keeps the log"
abbrev pub started_by : Outcome (Unit {0}) → Raw → Printout
started_by o r =
    elim o.answer [ refused n k ↦ printout (line_of (Refused n)) r | replied u ↦ printout (line_of Done) o.after ]

-- "`stop` uses node 1 and no metadata, and prints accepted with the stop-sign counted"
abbrev pub stop_of : ℕ → StopSign
stop_of c = record {
  config_id = c;
  node_count = 1;
  nodes = 1 ∷ replicate (most_nodes - 1) 0;
  metadata_held = false;
  metadata_len = 0;
  metadata = replicate most_metadata 0;
}

abbrev pub stop_line : Answer (Option Flushed) → Answer ℕ → List ℕ
stop_line (refused n k) last = line_of (Refused n)
stop_line (replied f) last = accepted_text last

abbrev pub stopped_by : Outcome (Option Flushed) → Printout
stopped_by o = printout (stop_line o.answer (of_numbers accepted_of o.after)) o.after

abbrev pub one : ℕ → SaidOf → List Change
one k said = record { key = k; said = said } ∷ []

unfoldable pub answering : Command → Raw → Printout
answering (command.Batch n) r = started_by (fresh_call n r.log r.snapshot) r
answering (command.Put k p) r = printed appended_text (run (append (one k (place p))) true r)
answering (command.Del k) r = printed appended_text (run (append (one k removed)) true r)
answering (command.Read from to) r = printed read_text (run (query (read (included from) (excluded to))) true r)
answering command.Flush r = printed accepted_text (run flush true r)
answering (command.Decide i) r = printed settled_text (run (decide i) true r)
answering (command.Compact what upto) r = printed settled_text (run (compact what (upto_of upto)) true r)
answering (command.Stop c) r = stopped_by (run (append_stop (stop_of c)) true r)
answering (command.Find k) r = printed found_text (run (query (lookup k)) true r)
answering command.BadLine r = printout (line_of BadLine) r
