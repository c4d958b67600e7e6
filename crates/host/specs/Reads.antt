-- What a read says, as the host sees it.
use Rattle.std.specs.Prelude.{ℕ, false, List, [], leb, eqb, length, if◌then◌else◌}
use Rattle.std.proofs.Math.Option.{Option, none, some}
use Rattle.std.proofs.Math.Seq.{paste}
use Rattle.entry.specs.Guards.{Answer, refused, replied}
use Rattle.model.specs.Log.{given}
use Rattle.model.specs.Read.{Marker, trimmed, snapshotted, Shown}
use Rattle.reading.specs.Parts.{part}
use Rattle.host.specs.declared.ShownSaid.{ShownSaid}

-- marker 0: none; 1: trimmed; 2: a snapshot of so many keys
abbrev pub marked : ℕ → ℕ → ℕ → Shown → ShownSaid
marked m i n v = record {
  number = 0;
  carried = 0;
  told = 1;
  marker = m;
  index = i;
  keys = n;
  first = v.part.first;
  count = length v.part.entries;
  decided = v.decided;
  stop = given v.stop;
  stop_decided = v.stop_decided;
}

abbrev pub none_shown : ℕ → ℕ → ShownSaid
none_shown n k = record {
  number = n;
  carried = k;
  told = 0;
  marker = 0;
  index = 0;
  keys = 0;
  first = 0;
  count = 0;
  decided = 0;
  stop = false;
  stop_decided = false;
}

abbrev pub marked_as : Option Marker → Shown → ShownSaid
marked_as none v = marked 0 0 0 v
marked_as (some (trimmed i)) v = marked 1 i 0 v
marked_as (some (snapshotted i es)) v = marked 2 i (length es) v

abbrev pub shown_as : Answer (Option Shown) → ShownSaid
shown_as (refused n k) = none_shown n k
shown_as (replied none) = none_shown 0 0
shown_as (replied (some v)) = marked_as v.marker v

-- the words of the entries that an answer shows
abbrev pub shown_by : ShownSaid → List ℕ → List ℕ
shown_by s log = if eqb s.told 1 then part s.first s.count log else []

-- a part copied to the front of an output slice, where it fits: how many words it has, and the slice after it
pub record Copied : Type 0 where
  pub words : ℕ
  pub output : List ℕ

abbrev pub copied : ℕ → List ℕ → Copied
copied n out = record { words = n; output = out }

abbrev pub copied_out : List ℕ → List ℕ → Copied
copied_out part out =
    copied (length part) (if leb (length part) (length out) then paste out 0 part (length part) else out)
