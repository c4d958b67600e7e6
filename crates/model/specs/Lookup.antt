-- Module 9: "a key's newest word among retained entries below log-decided, else the snapshot's"; document 02: it
-- "must reply place, removed or unknown". None is unknown: "on a log with a hole, unknown says only that this node no
-- longer holds the key".
use Rattle.std.specs.Prelude.{ℕ, ◌-◌, List, map, take}
use Rattle.std.proofs.Math.Option.{Option, or_else}
use Rattle.entry.specs.Change.{Said, Change}
use Rattle.snapshot.specs.Folds.{find, last_of}
use Rattle.model.specs.Numbers.{log_decided}
use Rattle.model.specs.Log.{Log, numbers_of, or_empty}

unfoldable pub lookup_reply : ℕ → Log → Option Said
lookup_reply k s =
    let decided : List Change = take (log_decided (numbers_of s) - s.run.compacted) s.run.retained in
    or_else (last_of k decided) (find k (or_empty s.run.held))

-- many keys: "each as the single lookup would give on the same state, repeated keys included"
abbrev pub lookup_replies : List ℕ → Log → List (Option Said)
lookup_replies ks s = map (λ (k : ℕ). lookup_reply k s) ks
