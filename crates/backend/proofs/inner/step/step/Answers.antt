-- `backend::inner::step::step` meets its contract: by the operation's kind.
use Rattle.std.specs.Prelude.{Result, Ok}
use Rattle.words.proofs.Prelude.{◌≡◌, refl, ℕ, List}
use Rattle.entry.specs.declared.Refusal.{Refusal}
use Rattle.state_cache.specs.State.{Raw, raw, numbers_in}
use Rattle.backend.specs.Ops.{of_kind, op_of, lent_of}
use Rattle.backend.specs.Inner.{midst_of, Steps}
use Rattle.model.specs.Backend.{Op, Lent}
use Rattle.backend.specs.declared.OpKind.{OpKind}
use Rattle.backend.specs.declared.inner.step.Stepped.{Stepped}
use Rattle.backend.specs.declared.OpKind.TheVariants.{AppendEntries, AppendOnPrefix, SetPromise, SetDecidedIndex}
use Rattle.backend.specs.declared.OpKind.TheVariants.{SetAcceptedRound, SetCompactedIdx, Trim, SetStopsign}
use Rattle.backend.specs.declared.OpKind.TheVariants.{SetSnapshot}
use Rattle.backend.proofs.Requests.{long_incoming}
use Rattle.backend.proofs.Goings.{goes_of, append_goes, on_prefix_goes, promise_goes, decided_goes, round_goes}
use Rattle.backend.proofs.Goings.{compacted_goes, trimmed_goes, is_supplied, sign_goes, snapshot_goes}
use Rattle.backend.proofs.inner.step.step.Goals as goal
use Rattle.backend.proofs.inner.step.step.Goals.{Start}

abbrev state : Start → Raw
state st = raw st.args.so_far.index st.args.log.now st.args.snapshot.now

abbrev lent : Start → Lent
lent st = lent_of st.args.lent st.args.entries.now st.args.incoming.now

abbrev Comes : Start → Op → Result Stepped Refusal → List ℕ → List ℕ → Type 0
Comes st o s log snapshot =
    Steps (numbers_in st.args.before) (lent st) o (midst_of st.args.so_far.start (state st)) s log snapshot

-- what the operation comes to, where its kind is known
came : (st : Start) (k : OpKind) (s : Result Stepped Refusal) (log snapshot : List ℕ) → st.args.o.kind ≡ k
    → Comes st (of_kind k st.args.o) s log snapshot → Comes st (op_of st.args.o) s log snapshot
came st = goes_of (numbers_in st.args.before) (lent st) (midst_of st.args.so_far.start (state st)) st.args.o

stands : (st : Start) (k : OpKind) (s : Stepped) (log snapshot : List ℕ) → st.args.o.kind ≡ k
    → Comes st (of_kind k st.args.o) (Ok s) log snapshot → Comes st (op_of st.args.o) (Ok s) log snapshot
stands st k s = came st k (Ok s)

pub write_snapshot-requires-clause-incoming_len : goal.write_snapshot-requires-clause-incoming_len
write_snapshot-requires-clause-incoming_len c =
    long_incoming c.args.lent c.args.entries.now c.args.incoming.now c.requires.lends

pub returns-in-AppendEntries : goal.returns-in-AppendEntries
returns-in-AppendEntries c =
    let st : Start = (goal.at.returns-in-AppendEntries c).Start in
    let words = c.put_at.new.log in
    came st AppendEntries c.put_at.result words c.args.snapshot.now
    c.in-AppendEntries.is
    (append_goes c.args.so_far.start (state st) c.requires.kept (numbers_in c.args.before)
    (lent st) c.put_at.result words c.put_at.ensures)

pub returns-in-AppendOnPrefix : goal.returns-in-AppendOnPrefix
returns-in-AppendOnPrefix c =
    let st : Start = (goal.at.returns-in-AppendOnPrefix c).Start in
    let words = c.put_on_prefix.new.log in
    came st AppendOnPrefix c.put_on_prefix.result words c.args.snapshot.now
    c.in-AppendOnPrefix.is
    (on_prefix_goes c.args.so_far.start (state st) c.requires.kept (numbers_in c.args.before)
    (lent st) c.args.entries.now c.args.o.index.0 c.put_on_prefix.result words refl c.put_on_prefix.ensures)

pub returns-in-SetPromise : goal.returns-in-SetPromise
returns-in-SetPromise c =
    let st : Start = (goal.at.returns-in-SetPromise c).Start in
    rw c.with.ensures
    (stands st SetPromise _ c.args.log.now c.args.snapshot.now c.in-SetPromise.is
    (promise_goes c.args.so_far.start (state st) c.requires.kept (numbers_in c.args.before)
    (lent st) c.args.o.ballot))

pub returns-in-SetDecidedIndex : goal.returns-in-SetDecidedIndex
returns-in-SetDecidedIndex c =
    let st : Start = (goal.at.returns-in-SetDecidedIndex c).Start in
    rw c.with-in-SetDecidedIndex.ensures
    (stands st SetDecidedIndex _ c.args.log.now c.args.snapshot.now c.in-SetDecidedIndex.is
    (decided_goes c.args.so_far.start (state st) c.requires.kept (numbers_in c.args.before)
    (lent st) c.args.o.index))

pub returns-in-SetAcceptedRound : goal.returns-in-SetAcceptedRound
returns-in-SetAcceptedRound c =
    let st : Start = (goal.at.returns-in-SetAcceptedRound c).Start in
    rw c.with-in-SetAcceptedRound.ensures
    (stands st SetAcceptedRound _ c.args.log.now c.args.snapshot.now c.in-SetAcceptedRound.is
    (round_goes c.args.so_far.start (state st) c.requires.kept (numbers_in c.args.before)
    (lent st) c.args.o.ballot))

pub returns-in-SetCompactedIdx : goal.returns-in-SetCompactedIdx
returns-in-SetCompactedIdx c =
    let st : Start = (goal.at.returns-in-SetCompactedIdx c).Start in
    rw c.with-in-SetCompactedIdx.ensures
    (stands st SetCompactedIdx _ c.args.log.now c.args.snapshot.now c.in-SetCompactedIdx.is
    (compacted_goes c.args.so_far.start (state st) c.requires.kept (numbers_in c.args.before)
    (lent st) c.args.o.index))

pub returns-in-Trim : goal.returns-in-Trim
returns-in-Trim c =
    let st : Start = (goal.at.returns-in-Trim c).Start in
    let words = c.trim_to.new.log in
    came st Trim (Ok c.trim_to.result) words c.args.snapshot.now c.in-Trim.is
    (trimmed_goes c.args.so_far.start (state st) c.requires.kept (numbers_in c.args.before)
    (lent st) c.args.o.index.0 (Ok c.trim_to.result) words c.trim_to.ensures)

pub returns-in-SetStopsign : goal.returns-in-SetStopsign
returns-in-SetStopsign c =
    let st : Start = (goal.at.returns-in-SetStopsign c).Start in
    let told = c.in-SetStopsign.is in
    rw (c.with-in-SetStopsign.ensures, c.sign_if.ensures)
    (stands st SetStopsign _ c.args.log.now c.args.snapshot.now told
    (sign_goes c.args.so_far.start (state st) c.requires.kept (numbers_in c.args.before)
    c.args.lent c.args.entries.now c.args.incoming.now c.requires.lends c.args.o.given
    (is_supplied (lent st) c.args.o SetStopsign told c.requires.o_value)))

pub returns-in-SetSnapshot : goal.returns-in-SetSnapshot
returns-in-SetSnapshot c =
    let st : Start = (goal.at.returns-in-SetSnapshot c).Start in
    let told = c.in-SetSnapshot.is in
    rw (c.with-in-SetSnapshot.ensures, c.keys_if.ensures, c.write_snapshot.ensures)
    (stands st SetSnapshot _ c.args.log.now _ told
    (snapshot_goes c.args.so_far.start (state st) c.requires.kept (numbers_in c.args.before)
    c.args.lent c.args.entries.now c.args.incoming.now c.requires.lends c.args.o.given
    (is_supplied (lent st) c.args.o SetSnapshot told c.requires.o_value)))
