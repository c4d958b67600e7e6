-- Document 01's table of refusals, and document 02's: the number of each, and the number that it carries.
use Rattle.std.specs.Prelude.{ℕ}
use Rattle.entry.specs.declared.Refusal.{Refusal}
use Rattle.entry.specs.declared.Refusal.TheVariants.{NoRoom, AboveDecided, BelowCompacted, Stopped, BelowDecided}
use Rattle.entry.specs.declared.Refusal.TheVariants.{AboveAccepted, OutsideRun, TooManyKeys, PastLastIndex}
use Rattle.entry.specs.declared.Refusal.TheVariants.{BatchHeld, Malformed, IllFormed, OutputShort, UnknownFormat}
use Rattle.entry.specs.declared.Refusal.TheVariants.{Damaged, Hole, OutgoingShort, AtLargest, RepliesFull}

abbrev pub number_of : Refusal → ℕ
number_of NoRoom = 1
number_of (AboveDecided i) = 2
number_of (BelowCompacted i) = 3
number_of (Stopped i) = 4
number_of (BelowDecided i) = 5
number_of (AboveAccepted i) = 6
number_of (OutsideRun i) = 7
number_of TooManyKeys = 8
number_of (PastLastIndex i) = 9
number_of (BatchHeld n) = 10
number_of Malformed = 11
number_of IllFormed = 12
number_of OutputShort = 13
number_of UnknownFormat = 14
number_of (Damaged at) = 15
number_of Hole = 16
number_of OutgoingShort = 18
number_of AtLargest = 19
number_of RepliesFull = 20

abbrev pub carried_of : Refusal → ℕ
carried_of NoRoom = 0
carried_of (AboveDecided i) = i.0
carried_of (BelowCompacted i) = i.0
carried_of (Stopped i) = i.0
carried_of (BelowDecided i) = i.0
carried_of (AboveAccepted i) = i.0
carried_of (OutsideRun i) = i.0
carried_of TooManyKeys = 0
carried_of (PastLastIndex i) = i.0
carried_of (BatchHeld n) = n
carried_of Malformed = 0
carried_of IllFormed = 0
carried_of OutputShort = 0
carried_of UnknownFormat = 0
carried_of (Damaged at) = at
carried_of Hole = 0
carried_of OutgoingShort = 0
carried_of AtLargest = 0
carried_of RepliesFull = 0
