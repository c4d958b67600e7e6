-- `replay::shown::put_marker` meets its contract: a snapshot's line counts the keys that its marker names.
use Rattle.words.proofs.Prelude.{ap, ◌∙◌, ℕ, List, ◌++◌, take}
use Rattle.replay.proofs.Telling.{snapshot_line}
use Rattle.replay.proofs.shown.put_marker.Goals as goal

pub returns-in-Some-Snapshot-clause-by_index : goal.returns-in-Some-Snapshot-clause-by_index
returns-in-Some-Snapshot-clause-by_index c =
    let front = take c.args.at c.args.out.now in
    let m = c.in-Some-Snapshot in
    λ (snapshot : List ℕ). rw m.is
    (rw (rw m.is at m.field-0-is)
    (c.put_line-in-Some-Snapshot.ensures.out_after
    ∙ ap (λ (l : List ℕ). front ++ l) (snapshot_line m.index.0 m.keys snapshot)))
