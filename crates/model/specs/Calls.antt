-- Every call of document 01, as a function of the state: its refusals in their order, its reply, and the state after
-- it.
use Rattle.std.specs.Prelude.{ℕ, Bool, false, ◌||◌, not, List, [], ◌∷◌, ltb, length}
use Rattle.std.proofs.Math.Option.{Option, none, some}
use Rattle.entry.specs.Limits.{most_asked}
use Rattle.entry.specs.Change.{Said, Change, entries_formed}
use Rattle.entry.specs.Sign.{sign_formed}
use Rattle.entry.specs.Guards.{Guard, guard, Verdict, passes, refuses, first, Answer, settle}
use Rattle.entry.specs.declared.Ballot.{Ballot}
use Rattle.entry.specs.declared.Compaction.{Compaction}
use Rattle.entry.specs.declared.StopSign.{StopSign}
use Rattle.model.specs.Numbers.{Numbers, accepted_of, log_decided}
use Rattle.model.specs.Log.{Log, given, if_given, numbers_of, well_formed, deciding, promising, with_marks}
use Rattle.model.specs.Append.{append_guards, append_stop_guards, set_stop_guards, appended, appended_now, flushed}
use Rattle.model.specs.Append.{stop_appended, stop_set, reloaded, Flushed, append_reply, flush_reply}
use Rattle.model.specs.Backend.{Op, Lent, ops_formed, write_guards, list_written}
use Rattle.model.specs.Read.{Bound, start_past, stop_past, Span, Shown}
use Rattle.model.specs.Read.{read_reply, decided_suffix, entries_between, suffix_from}
use Rattle.model.specs.Compact.{compact_guards, create_guards, created, compacted_to}
use Rattle.model.specs.Diff.{Given, diff_of, diff_guards}
use Rattle.model.specs.Sync.{Part, part_formed, part_guards, round_guards, marks_then, part_synced}
use Rattle.model.specs.Lookup.{lookup_reply, lookup_replies}

-- the calls that change nothing: read, read_decided_suffix, get_entries, get_suffix, create_snapshot,
-- create_diff_snapshot, lookup, lookup_many
pub data Query : Type 0 where
  read : Bound → Bound → Query
  read_decided get_suffix create diff lookup : ℕ → Query
  lookup_many : List ℕ → Query
  get_entries : ℕ → ℕ → Query

-- the others, by the Rust's names: append_entry_with_batching and append_entries_with_batching (append),
-- append_entries_without_batching (append_now), flush_batch, flush_batch_and_get_entries (flush_entries),
-- append_stopsign, set_stopsign, set_promise, set_decided_idx, try_trim and try_snapshot (compact), sync_log,
-- load_cache (reload), write_atomically (write)
pub data Call : Type 0 where
  query : Query → Call
  append append_now : List Change → Call
  flush flush_entries : Call
  append_stop : StopSign → Call
  set_stop : Option StopSign → Call
  set_promise : Ballot → Call
  decide : ℕ → Call
  compact : Compaction → Option ℕ → Call
  sync : Ballot → ℕ → Option Part → Call
  reload : Call
  write : Lent → List Op → Call

-- what a call that stands replies: nothing to say is `Unit`, the Rust's `None` is `none`
pub record Diff : Type 0 where
  pub given : Given
  pub upto : ℕ

abbrev pub QueryReply : Query → Type 0
QueryReply (read a b) = Option Shown
QueryReply (read_decided i) = Option Shown
QueryReply (get_suffix i) = Span
QueryReply (create i) = List Change
QueryReply (diff i) = Diff
QueryReply (lookup k) = Option Said
QueryReply (lookup_many ks) = List (Option Said)
QueryReply (get_entries i j) = Span

abbrev pub Reply : Call → Type 0
Reply (query q) = QueryReply q
Reply (append es) = Option Flushed
Reply (append_now es) = ℕ
Reply flush = ℕ
Reply flush_entries = Option Flushed
Reply (append_stop g) = Option Flushed
Reply (set_stop g) = ℕ
Reply (set_promise b) = Unit {0}
Reply (decide i) = Unit {0}
Reply (compact what upto) = Unit {0}
Reply (sync b d p) = ℕ
Reply reload = ℕ
Reply (write l ops) = Unit {0}

-- "11: an argument malformed"
abbrev pub query_malformed : Query → Bool
query_malformed (read a b) = start_past a || stop_past b
query_malformed (read_decided i) = false
query_malformed (get_suffix i) = false
query_malformed (create i) = false
query_malformed (diff i) = false
query_malformed (lookup k) = false
query_malformed (lookup_many ks) = ltb most_asked (length ks)
query_malformed (get_entries i j) = false

unfoldable pub malformed : Call → Bool
malformed (query q) = query_malformed q
malformed (append es) = not (entries_formed es)
malformed (append_now es) = not (entries_formed es)
malformed flush = false
malformed flush_entries = false
malformed (append_stop g) = not (sign_formed g)
malformed (set_stop g) = not (if_given sign_formed g)
malformed (set_promise b) = false
malformed (decide i) = false
malformed (compact what upto) = false
malformed (sync b d p) = not (if_given part_formed p)
malformed reload = false
malformed (write l ops) = not (ops_formed l ops)

-- the refusals after 12 and 11
unfoldable pub decide_guards : ℕ → Numbers → List Guard
decide_guards i n = guard 5 n.decided (ltb i n.decided) ∷ guard 6 (accepted_of n) (ltb (accepted_of n) i) ∷ []

unfoldable pub sync_guards : ℕ → Option Part → Log → List Guard
sync_guards d none s = round_guards d (numbers_of s)
sync_guards d (some p) s = part_guards d p s

unfoldable pub query_guards : Query → Log → List Guard
query_guards (read a b) s = []
query_guards (read_decided i) s = []
query_guards (get_suffix i) s = []
query_guards (create i) s = create_guards i s
query_guards (diff i) s = diff_guards i s
query_guards (lookup k) s = []
query_guards (lookup_many ks) s = []
query_guards (get_entries i j) s = []

unfoldable pub further : Call → Log → List Guard
further (query q) s = query_guards q s
further (append es) s = append_guards (length es) (numbers_of s)
further (append_now es) s = append_guards (length es) (numbers_of s)
further flush s = []
further flush_entries s = []
further (append_stop g) s = append_stop_guards (numbers_of s)
further (set_stop g) s = set_stop_guards (given g) (numbers_of s)
further (set_promise b) s = []
further (decide i) s = decide_guards i (numbers_of s)
further (compact what upto) s = compact_guards what upto s
further (sync b d p) s = sync_guards d p s
further reload s = []
further (write l ops) s = write_guards l ops s

-- "All: 12, 11."
unfoldable pub guards : Call → Log → List Guard
guards c s = guard 12 0 (not (well_formed s)) ∷ guard 11 0 (malformed c) ∷ further c s

-- the state after a call that stands
unfoldable pub synced : Ballot → ℕ → Option Part → Log → Log
synced b d none s = marks_then b d s
synced b d (some p) s = part_synced b d p s

unfoldable pub effect : Call → Log → Log
effect (query q) s = s
effect (append es) s = appended es s
effect (append_now es) s = appended_now es s
effect flush s = flushed s
effect flush_entries s = flushed s
effect (append_stop g) s = stop_appended g s
effect (set_stop g) s = stop_set g s
effect (set_promise b) s = with_marks (promising b s.marks) s
effect (decide i) s = with_marks (deciding i s.marks) s
effect (compact what upto) s = compacted_to what upto s
effect (sync b d p) s = synced b d p s
effect reload s = reloaded s
effect (write l ops) s = list_written l ops s

-- its reply; where that is the accepted index, it is the one after the call
unfoldable pub query_reply : (q : Query) → Log → QueryReply q
query_reply (read a b) s = read_reply a b s
query_reply (read_decided i) s = decided_suffix i s
query_reply (get_suffix i) s = suffix_from i s
query_reply (create i) s = created i s
query_reply (diff i) s = record { given = diff_of i s; upto = log_decided (numbers_of s) }
query_reply (lookup k) s = lookup_reply k s
query_reply (lookup_many ks) s = lookup_replies ks s
query_reply (get_entries i j) s = entries_between i j s

unfoldable pub reply_of : (c : Call) → Log → Reply c
reply_of (query q) s = query_reply q s
reply_of (append es) s = append_reply es s
reply_of (append_now es) s = accepted_of (numbers_of (appended_now es s))
reply_of flush s = accepted_of (numbers_of (flushed s))
reply_of flush_entries s = flush_reply s
reply_of (append_stop g) s = flush_reply s
reply_of (set_stop g) s = accepted_of (numbers_of (stop_set g s))
reply_of (set_promise b) s = tt
reply_of (decide i) s = tt
reply_of (compact what upto) s = tt
reply_of (sync b d p) s = accepted_of (numbers_of (synced b d p s))
reply_of reload s = accepted_of (numbers_of (reloaded s))
reply_of (write l ops) s = tt

-- a call's answer, and the state after it: a refused call leaves all as it was
abbrev pub after : Verdict → Log → Log → Log
after passes t s = t
after (refuses n k) t s = s

unfoldable pub answer_to : (c : Call) → Log → Answer (Reply c)
answer_to c s = settle (first (guards c s)) (reply_of c s)

unfoldable pub state_after : Call → Log → Log
state_after c s = after (first (guards c s)) (effect c s) s
