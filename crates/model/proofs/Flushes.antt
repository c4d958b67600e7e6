-- What an append or a flush replies as flushed: the last so many of the entries then retained.
use Rattle.words.proofs.Prelude.{◌≡◌, true, List, length, drop}
use lib.Seq.{drop-append_seam}
use Rattle.entry.specs.Change.{Change}
use Rattle.model.specs.{Log.Log, Append.batch_with, Append.fills, Append.appended, Append.flushed}

pub appended_last : (es : List Change) (s : Log) → fills es s ≡ true
    → drop (length s.run.retained) (appended es s).run.retained ≡ batch_with es s
unfolding appended
appended_last es s e = rw e (drop-append_seam s.run.retained (batch_with es s))

pub flushed_last : (s : Log) → drop (length s.run.retained) (flushed s).run.retained ≡ s.tail.batched
unfolding flushed
flushed_last s = drop-append_seam s.run.retained s.tail.batched
