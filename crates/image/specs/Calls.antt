-- The two calls: a state written into lent bytes, and bytes read into a lent log.
use Rattle.std.specs.Prelude.{ℕ, ◌≤◌, ◌≡◌, Bool, ◌&&◌, ◌||◌, not, List, [], ◌∷◌, ltb, leb, eqb, length, take, drop}
use Rattle.std.specs.Prelude.{Result, Ok, Err}
use Rattle.words.specs.Words.{spliced}
use Rattle.records.specs.Big.{value}
use Rattle.entry.specs.Limits.{largest_batch, log_words, snapshot_words}
use Rattle.entry.specs.Guards.{Guard, guard, Verdict, passes, refuses, first, Answer, refused, replied, said_by}
use Rattle.entry.specs.Guards.{settle}
use Rattle.snapshot.specs.Calls.{Outcome as Output, outcome as output}
use Rattle.model.specs.Numbers.{accepted_of}
use Rattle.model.specs.Log.{Log, numbers_of, fresh_log}
use Rattle.state_cache.specs.State.{Raw, raw, formed, log_of, index_of, raw_of}
use Rattle.state_cache.specs.Run.{Outcome, outcome}
use Rattle.image.specs.Layout.{head_mark, image_room}
use Rattle.image.specs.Image.{image_of}
use Rattle.image.specs.Reading.{head_at, head_sound, run_of, run_end, whole, state_from}
use Rattle.entry.specs.Refusals.{number_of, carried_of}
use Rattle.entry.specs.declared.Refusal.{Refusal}

-- ---- writing: "Refusals, after 12 and 11 …: 13 output room short". Its reply is how many bytes it wrote; those after
-- them stay

abbrev pub write_guards : Raw → List ℕ → List Guard
write_guards r out =
    guard 12 0 (not (formed r)) ∷ guard 13 0 (ltb (length out) (length (image_of (log_of r)))) ∷ []

abbrev pub put_by : Verdict → List ℕ → List ℕ → Output
put_by passes bytes out = output (replied (length bytes)) (spliced 0 (length bytes) bytes out)
put_by (refuses n k) bytes out = output (refused n k) out

unfoldable pub write_call : Raw → List ℕ → Output
write_call r out = put_by (first (write_guards r out)) (image_of (log_of r)) out

abbrev pub written : Result ℕ Refusal → Answer ℕ
written r = said_by (λ (n : ℕ). n) r

-- ---- reading: "no 12, and 11 for a log slice of wrong length"; "15 at offset 0 for fewer than four bytes or a wrong
-- first mark, then 14 unknown format, then 15 damaged, ill-formed or bytes left over, with the offset of the first bad
-- record or leftover byte"

unfoldable pub image_guards : List ℕ → List Guard
image_guards bs =
    guard 15 0 (ltb (length bs) 4 || not (eqb (value (take 2 bs)) head_mark))
    ∷ guard 14 0 (not (eqb (value (take 2 (drop 2 bs))) 1))
    ∷ guard 15 0 (not (head_sound bs))
    ∷ guard 15 (run_end (head_at bs) bs) (not (whole (head_at bs) bs))
    ∷ []

abbrev pub judged : Result (Unit {0}) Refusal → Verdict
judged (Ok u) = passes
judged (Err r) = refuses (number_of r) (carried_of r)

abbrev pub state_in : ℕ → List ℕ → Log
state_in size bs = state_from size (head_at bs) (run_of (head_at bs) bs)

-- the state that an image is of, at a batch size
unfoldable pub read_image : ℕ → List ℕ → Answer Log
read_image size bs = settle (first (guard 11 0 (ltb largest_batch size) ∷ image_guards bs)) (state_in size bs)

-- "Reading back a written image gives the state without its batch", at whatever size; and none has more bytes than the
-- room. Nothing is said of a refused write
abbrev pub unbatched : ℕ → Log → Log
unbatched size s = record {
  run = s.run;
  tail = record { batched = []; size = size; sign = s.tail.sign };
  marks = s.marks;
}

abbrev pub ReadsBack : Result ℕ Refusal → Log → List ℕ → Type 0
ReadsBack (Ok n) s out =
    ((size : ℕ) → size ≤ largest_batch → read_image size (take n out) ≡ replied (unbatched size s)) × (n ≤ image_room)
ReadsBack (Err r) s out = Unit {0}

-- into a lent log: as of a reload, its reply is the accepted index; the words are overwritten whatever they held, and
-- beside a refusal stands the record of a fresh log of batch size 0
abbrev pub lent_well : ℕ → List ℕ → List ℕ → Bool
lent_well size log snapshot =
    leb size largest_batch && (eqb (length log) log_words && eqb (length snapshot) snapshot_words)

abbrev pub loaded : Verdict → Log → List ℕ → List ℕ → Outcome ℕ
loaded passes s log snapshot = outcome (replied (accepted_of (numbers_of s))) (raw_of s)
loaded (refuses n k) s log snapshot = outcome (refused n k) (raw (index_of (fresh_log 0)) log snapshot)

unfoldable pub read_call : ℕ → List ℕ → List ℕ → List ℕ → Outcome ℕ
read_call size bs log snapshot =
    loaded (first (guard 11 0 (not (lent_well size log snapshot)) ∷ image_guards bs)) (state_in size bs) log snapshot
