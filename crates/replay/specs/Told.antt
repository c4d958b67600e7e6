-- What is told of the file, as bytes. src/told.rt has told_room as a constant.
use Rattle.std.specs.Prelude.{ℕ, List, ◌++◌, Option, Some, None, Result, Ok, Err}
use Rattle.text.specs.Bytes.{bytes}
use Rattle.text.specs.Refusing.{refused_text}
use Rattle.replay.specs.declared.told.Told.{Told}
use Rattle.replay.specs.declared.told.Told.TheVariants.{NoName, Unread, NoImage, NoBytes}
use Rattle.replay.specs.declared.told.Told.TheVariants.{NotMade, NotWritten, NotNamed, NotSynced}

unfoldable pub told_text : Told → List ℕ
told_text NoName = bytes "not loaded: no file can be saved by this name\n"
told_text Unread = bytes "not loaded: the file cannot be read\n"
told_text (NoImage number carried) = refused_text number carried
told_text (NoBytes number carried) = bytes "not saved, the old file stands: " ++ refused_text number carried
told_text NotMade = bytes "not saved, the old file stands: no new file could be made beside it\n"
told_text NotWritten = bytes "not saved, the old file stands: the new one could not be written\n"
told_text NotNamed = bytes "not saved, the old file stands: the new one could not be given its name\n"
told_text NotSynced =
    bytes "saved, the new file stands, but may not outlast a crash: its directory could not be synced\n"

-- the bytes of such a line
abbrev pub told_room : ℕ
told_room = 128

-- what there is where nothing is told
abbrev pub untold : {A : Type 0} → Result A Told → Option A
untold (Ok x) = Some x
untold (Err t) = None
