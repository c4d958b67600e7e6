-- The file: what the program was started with, and what it starts from.
use Rattle.std.specs.Prelude.{ℕ, ◌≡◌, List, ◌⊎◌, Result, Ok, Err, IfOk}
use Rattle.std.proofs.Math.Option.{Option}
use Rattle.entry.specs.Guards.{replied}
use Rattle.model.specs.Log.{fresh_log}
use Rattle.state_cache.specs.State.{Raw, raw, raw_of}
use Rattle.state_cache.specs.declared.IndexRecord.{IndexRecord}
use Rattle.state_cache.specs.Run.{outcome}
use Rattle.image.specs.Calls.{read_call}
use Rattle.words.specs.Words.{IsPrefixLen}
use Rattle.keep.specs.declared.SaveError.{SaveError}
use Rattle.keep.specs.declared.SaveError.TheVariants as save_error
use Rattle.text.specs.Lines.{lines_of, last_ended}
use Rattle.replay.specs.Input.{replayed, start_of, Reached}
use Rattle.replay.specs.declared.file.Given.{Given}
use Rattle.replay.specs.declared.file.Given.TheVariants as given
use Rattle.replay.specs.declared.told.Told.{Told}
use Rattle.replay.specs.declared.told.Told.TheVariants.{NoName, NotMade, NotWritten, NotNamed, NotSynced}

-- the name of a file stands at the front of some bytes
abbrev pub Named : Given → List ℕ → Type 0
Named given.Nothing path = Unit {0}
Named (given.File n) path = IsPrefixLen n path
Named given.NoName path = Unit {0}

-- "before the first the size is 0": a fresh log
abbrev pub Fresh : Raw → Type 0
Fresh x = x ≡ raw_of (fresh_log 0)

-- the log that some bytes are the image of, at batch size 0
abbrev pub Stored : Raw → Type 0
Stored x =
    (bs : List ℕ) × (log : List ℕ) × (snapshot : List ℕ) × (i : ℕ)
    × (read_call 0 bs log snapshot ≡ outcome (replied i) x)

-- a file's, or a fresh one where there is no such file
abbrev pub Filed : Raw → Type 0
Filed x = Fresh x ⊎ Stored x

-- the log before the first line; by no name there is none
abbrev pub Begins : Given → Raw → Type 0
Begins given.Nothing x = Fresh x
Begins (given.File n) x = Filed x
Begins given.NoName x = ⊥

-- a program without a file has a log; one that is to have a file and has no name for it tells that
abbrev pub Began : Given → Result IndexRecord Told → List ℕ → List ℕ → Type 0
Began given.Nothing r log snapshot = (index : IndexRecord) × (r ≡ Ok index) × Fresh (raw index log snapshot)
Began (given.File n) r log snapshot = IfOk r (λ (index : IndexRecord). Filed (raw index log snapshot))
Began given.NoName r log snapshot = r ≡ Err NoName

abbrev pub Quiet : Given → Result (Unit {0}) Told → Type 0
Quiet given.Nothing r = r ≡ Ok tt
Quiet (given.File n) r = Unit {0}
Quiet given.NoName r = Unit {0}

-- where the program stands: some input has come, and its lines have been answered from such a log on
pub record Standing (g : Given) (x : Raw) (line : Option (List ℕ)) (waits : List ℕ) : Type 0 where
  pub from : Raw
  pub begins : Begins g from
  pub input : List ℕ
  pub reached : Reached from (lines_of input) x line waits

-- the state after the last line: the one that is saved
pub record Ended (g : Given) (x : Raw) : Type 0 where
  pub from : Raw
  pub begins : Begins g from
  pub input : List ℕ
  pub state : x ≡ (replayed (last_ended (lines_of input)).ended (start_of from)).after

abbrev pub told_saved : Result (Unit {0}) SaveError → Result (Unit {0}) Told
told_saved (Ok done) = Ok tt
told_saved (Err save_error.NotMade) = Err NotMade
told_saved (Err save_error.NotWritten) = Err NotWritten
told_saved (Err save_error.NotNamed) = Err NotNamed
told_saved (Err save_error.NotSynced) = Err NotSynced
