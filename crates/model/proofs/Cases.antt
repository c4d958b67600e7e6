-- The thirteen cases, computed: a single claim.
use Rattle.words.proofs.Prelude.{◌≡◌, refl, map}
use Rattle.words.specs.All.{all_of}
use Rattle.entry.specs.{Sign.sign_formed, Guards.first}
use Rattle.snapshot.specs.Folds.{insert, fold_onto, fold, merge, climbs, rising}
use Rattle.model.specs.{Numbers.end_of, Numbers.accepted_of, Numbers.stop_decided, Numbers.log_decided}
use Rattle.model.specs.{Numbers.numbers_formed, Log.folded_to, Log.keys_formed, Log.well_formed, Log.fresh_log}
use Rattle.model.specs.{Append.append_guards, Append.fills, Append.appended, Append.append_reply, Read.marker_of}
use Rattle.model.specs.{Read.full_run, Read.read_from, Read.read_reply, Compact.target, Compact.passes_start}
use Rattle.model.specs.{Compact.compact_guards, Compact.compacted_to, Calls.malformed}
use Rattle.model.specs.{Calls.query_guards, Calls.further, Calls.guards, Calls.effect, Calls.query_reply}
use Rattle.model.specs.{Calls.reply_of, Calls.answer_to, Calls.state_after, Cases.Case, Cases.log_l, Cases.table}

pub cases : map (λ (c : Case). c.seen) table ≡ map (λ (c : Case). c.due) table
unfolding all_of sign_formed first insert fold_onto fold merge climbs rising end_of accepted_of stop_decided log_decided
    numbers_formed folded_to keys_formed well_formed fresh_log append_guards fills appended append_reply marker_of full_run
    read_from read_reply target passes_start compact_guards compacted_to malformed query_guards further guards effect
    query_reply reply_of answer_to state_after log_l
cases = refl
