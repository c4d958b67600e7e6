-- Bytes put one after another, and the lines of what a read shows.
use Rattle.words.proofs.Prelude.{arith, ◌≡◌, refl, sym, ap, ◌∙◌, ℕ, ◌+◌, ◌*◌, ◌/◌, ◌≤◌, Bool, true, false, ◌&&◌, eqb}
use Rattle.words.proofs.Prelude.{leb, if◌then◌else◌, Option, none, some, List, [], append_assoc, ◌++◌, length-drop}
use Rattle.words.proofs.Prelude.{length-take, length, take, drop}
use Rattle.words.proofs.CodedLaws.{entries_length}
use Rattle.entry.specs.{Limits.width, Limits.largest_batch, Limits.log_words, Limits.snapshot_words, Guards.Answer}
use Rattle.entry.specs.{Guards.refused, Guards.replied, Change.Change, Change.entries_of, Change.change_code}
use Rattle.model.specs.{Append.Flushed, Read.Bound, Read.span, Read.Shown, Read.shown, Log.given, Log.fresh_log}
use Rattle.model.specs.{Numbers.accepted_of, Calls.Query, Calls.QueryReply, Calls.query, Calls.read}
use Rattle.entry.proofs.RefusalLaws.{apart}
use Rattle.state_cache.proofs.{Stands.given_by}
use Rattle.state_cache.specs.{State.Raw, State.raw, State.raw_of, State.index_of, State.one_if, Run.Outcome, Run.outcome}
use Rattle.state_cache.specs.{Run.run, Run.fresh_call, Run.of_numbers, declared.IndexRecord.IndexRecord}
use Rattle.text.specs.Answers.{line_of, entry_lines}
use Rattle.text.specs.declared.Line.TheVariants.{Done, Refused, Run, Snapshot}
use Rattle.reading.proofs.{Answers.query_keeps, Showing.lent_count, Replying.ShownLent, Replying.read_lent}
use Rattle.reading.specs.{Parts.part, Replies.lent_span, Replies.marker_said, Replies.shown_said}
use Rattle.reading.specs.{declared.ShownRun.ShownRun}
use Rattle.replay.specs.Answering.{printout, marker_text, stop_text, shown_text, read_text, in_log, read_text_in}
use Rattle.replay.specs.Answering.{printed, started_by, stop_line, stopped_by}

two : {t₁ t₂ : List ℕ} (t₀ a b : List ℕ) → t₁ ≡ t₀ ++ a → t₂ ≡ t₁ ++ b → t₂ ≡ t₀ ++ (a ++ b)
two t₀ a b p q = q ∙ ap (λ (t : List ℕ). t ++ b) p ∙ append_assoc t₀ a b

-- a snapshot's line counts the keys that its marker names
pub snapshot_line : (i keys : ℕ) (snapshot : List ℕ)
    → line_of (Snapshot i keys) ≡ line_of (Snapshot i (length (entries_of keys snapshot)))
snapshot_line i keys snapshot = ap (λ (n : ℕ). line_of (Snapshot i n)) (sym (entries_length change_code keys snapshot))

-- a part of a log is no longer than the log
pub part_few : (first count : ℕ) (ws : List ℕ) → length (part first count ws) ≤ length ws
unfolding part
part_few first count ws = go (leb ((first + count) * width) (length ws))
  where
    go : (b : Bool) → length (if b then take (count * width) (drop (first * width) ws) else []) ≤ length ws
    go true = simp (length-take, length-drop) (omega arith)
    go false = omega arith

-- the lines one after another
pub shown_is : {t₁ t₂ t₃ t₄ : List ℕ} (t₀ : List ℕ) (run : ShownRun) (index : IndexRecord)
    (log snapshot entries : List ℕ) (m lines : ℕ)
    → entries ≡ part run.first run.count log → m ≡ one_if (given (marker_said snapshot run.marker))
    → lines ≡ m + length entries / width + one_if run.stop → t₁ ≡ t₀ ++ line_of (Run lines)
    → t₂ ≡ t₁ ++ marker_text (marker_said snapshot run.marker)
    → t₃ ≡ t₂ ++ entry_lines run.decided (entries_of (length entries / width) entries)
    → t₄ ≡ t₃ ++ stop_text (if run.stop then some index.stop else none) run.stop_decided
    → t₄ ≡ t₀ ++ shown_text (in_log log (shown_said (raw index log snapshot) run))
unfolding shown_text
shown_is {t₁ = t₁} {t₂ = t₂} t₀ run index log snapshot entries m lines e em el p q r s =
    let part_is : List ℕ = part run.first (length (lent_span log run.first run.count).entries) log in
    let named : entries ≡ part_is = e
    ∙ ap (λ (k : ℕ). part run.first k log) (sym (lent_count log run.first run.count)) in
    let n : ℕ = one_if (given (marker_said snapshot run.marker)) + length
    (entries_of (length part_is / width) part_is) + one_if
    (given (if run.stop then some index.stop else none)) in
    let en : lines ≡ n = el ∙ ap (λ (k : ℕ). k + length entries / width + one_if run.stop) em
    ∙ ap (λ (ws : List ℕ). one_if (given (marker_said snapshot run.marker)) + length ws / width
    + one_if run.stop) named
    ∙ ap (λ (k : ℕ). one_if (given (marker_said snapshot run.marker)) + k + one_if run.stop)
    (sym (entries_length change_code (length part_is / width) part_is))
    ∙ ap (λ (b : Bool). one_if (given (marker_said snapshot run.marker))
    + length (entries_of (length part_is / width) part_is) + one_if b) (sym (given_by run.stop index.stop)) in
    let head : List ℕ = line_of (Run n) in
    let mark : List ℕ = marker_text (marker_said snapshot run.marker) in
    let body : List ℕ = entry_lines run.decided (entries_of (length part_is / width) part_is) in
    let last : List ℕ = stop_text (if run.stop then some index.stop else none) run.stop_decided in
    let p' = p ∙ ap (λ (k : ℕ). t₀ ++ line_of (Run k)) en in
    let r' = r ∙ ap (λ (ws : List ℕ). t₂ ++ entry_lines run.decided (entries_of (length ws / width) ws)) named in
    two t₀ (head ++ mark ++ body) last (two t₀ (head ++ mark) body (two t₀ head mark p' q) r') s

-- the words that a read's part names are its entries
lent_text : (log : List ℕ) (a : Answer (Option Shown)) → ShownLent log a → read_text_in log a ≡ read_text a
lent_text log (refused n k) e = refl
lent_text log (replied none) e = refl
lent_text log (replied (some v)) e =
    ap (λ (es : List Change). shown_text
    (shown v.marker (span v.part.first es) v.decided v.stop v.stop_decided)) e

-- ---- what a call's answer prints, and the state after it

-- the answer of a call that changes nothing
pub asks : (q : Query) (text : Answer (QueryReply q) → List ℕ) (a : Answer (QueryReply q)) (x : Raw)
    → a ≡ (run (query q) true x).answer → printout (text a) x ≡ printed text (run (query q) true x)
asks q text a x e = ap (λ (b : Answer (QueryReply q)). printout (text b) x) e
    ∙ ap (λ (s : Raw). printout (text (run (query q) true x).answer) s) (sym (query_keeps q x))

-- a read's
pub reads : (a b : Bound) (said : Answer (Option Shown)) (x : Raw) → said ≡ (run (query (read a b)) true x).answer
    → printout (read_text_in x.log said) x ≡ printed read_text (run (query (read a b)) true x)
reads a b said x e =
    let whole = run (query (read a b)) true x in
    ap (λ (s : Answer (Option Shown)). printout (read_text_in x.log s) x) e
    ∙ ap (λ (bs : List ℕ). printout bs x) (lent_text x.log whole.answer (read_lent x a b))
    ∙ ap (λ (s : Raw). printout (read_text whole.answer) s) (sym (query_keeps (read a b) x))

pub stops : (l : List ℕ) (a : Answer (Option Flushed)) (last : Answer ℕ) (x : Raw) (o : Outcome (Option Flushed))
    → outcome a x ≡ o → last ≡ of_numbers accepted_of x → l ≡ stop_line a last → printout l x ≡ stopped_by o
stops l a last x o e h k = ap (λ (bs : List ℕ). printout bs x) (k ∙ ap (λ (i : Answer ℕ). stop_line a i) h)
    ∙ ap stopped_by e

-- a fresh log that is refused leaves the words
fresh_kept : (n k m : ℕ) (x : Raw) (log snapshot : List ℕ) → outcome (refused k m) x ≡ fresh_call n log snapshot
    → (x.log ≡ log) × (x.snapshot ≡ snapshot)
unfolding fresh_call
fresh_kept n k m x log snapshot =
    go (leb n largest_batch && (eqb (length log) log_words && eqb (length snapshot) snapshot_words))
  where
    go : (b : Bool) → outcome (refused k m) x
        ≡ (if b then outcome (replied (tt {0})) (raw_of (fresh_log n)) else outcome (refused 11 0)
        (raw (index_of (fresh_log 0)) log snapshot)) → (x.log ≡ log) × (x.snapshot ≡ snapshot)
    go true e = apart _ _ _ (sym (ap (λ (o : Outcome (Unit {0})). o.answer) e))
    go false e =
        (ap (λ (o : Outcome (Unit {0})). o.after.log) e, ap (λ (o : Outcome (Unit {0})). o.after.snapshot) e)

pub starts : (n : ℕ) (x old : Raw) → outcome (replied tt) x ≡ fresh_call n old.log old.snapshot
    → printout (line_of Done) x ≡ started_by (fresh_call n old.log old.snapshot) old
starts n x old e = ap (λ (o : Outcome (Unit {0})). started_by o old) e

pub stays : (n k m : ℕ) (x old : Raw) → outcome (refused k m) x ≡ fresh_call n old.log old.snapshot
    → printout (line_of (Refused k)) (raw old.index x.log x.snapshot)
    ≡ started_by (fresh_call n old.log old.snapshot) old
stays n k m x old e =
    let kept = fresh_kept n k m x old.log old.snapshot e in
    ap (λ (r : Raw). printout (line_of (Refused k)) r)
    (ap (λ (l : List ℕ). raw old.index l x.snapshot) kept.0
    ∙ ap (λ (l : List ℕ). raw old.index old.log l) kept.1)
    ∙ ap (λ (o : Outcome (Unit {0})). started_by o old) e
