-- `text::inner::put_line` meets its contract: each arm knows its line.
use Rattle.text.specs.Answers.{line_of}
use Rattle.words.proofs.Prelude.{rules}
use Rattle.text.proofs.inner.put_line.Goals as goal

pub returns-in-Done : goal.returns-in-Done
unfolding line_of
returns-in-Done c =
    record {
      upper_bound = search rules;
      out_after = rw c.in-Done.is c.put.ensures.out_after;
    }

pub returns-in-Held : goal.returns-in-Held
unfolding line_of
returns-in-Held c =
    record {
      upper_bound = search rules;
      out_after = rw c.in-Held.is c.put-in-Held.ensures.out_after;
    }

pub returns-in-Nothing : goal.returns-in-Nothing
unfolding line_of
returns-in-Nothing c =
    record {
      upper_bound = search rules;
      out_after = rw c.in-Nothing.is c.put-in-Nothing.ensures.out_after;
    }

pub returns-in-BadLine : goal.returns-in-BadLine
unfolding line_of
returns-in-BadLine c =
    record {
      upper_bound = search rules;
      out_after = rw c.in-BadLine.is c.put-in-BadLine.ensures.out_after;
    }

pub returns-in-Accepted : goal.returns-in-Accepted
unfolding line_of
returns-in-Accepted c =
    record {
      upper_bound = search rules;
      out_after = rw c.in-Accepted.is c.put_count.ensures.out_after;
    }

pub returns-in-Refused : goal.returns-in-Refused
unfolding line_of
returns-in-Refused c =
    record {
      upper_bound = search rules;
      out_after = rw c.in-Refused.is c.put_count-in-Refused.ensures.out_after;
    }

pub returns-in-Run : goal.returns-in-Run
unfolding line_of
returns-in-Run c =
    record {
      upper_bound = search rules;
      out_after = rw c.in-Run.is c.put_count-in-Run.ensures.out_after;
    }

pub returns-in-Trimmed : goal.returns-in-Trimmed
unfolding line_of
returns-in-Trimmed c =
    record {
      upper_bound = search rules;
      out_after = rw c.in-Trimmed.is c.put_count-in-Trimmed.ensures.out_after;
    }

pub returns-in-Snapshot : goal.returns-in-Snapshot
unfolding line_of
returns-in-Snapshot c =
    record {
      upper_bound = search rules;
      out_after = rw c.in-Snapshot.is c.put_two.ensures.out_after;
    }

pub returns-in-Stop : goal.returns-in-Stop
returns-in-Stop c =
    record {
      upper_bound = search rules;
      out_after = rw c.in-Stop.is c.put_stop.ensures.out_after;
    }

pub returns-in-Place : goal.returns-in-Place
unfolding line_of
returns-in-Place c =
    record {
      upper_bound = search rules;
      out_after = rw c.in-Place.is c.put_count-in-Place.ensures.out_after;
    }

pub returns-in-Removed : goal.returns-in-Removed
unfolding line_of
returns-in-Removed c =
    record {
      upper_bound = search rules;
      out_after = rw c.in-Removed.is c.put-in-Removed.ensures.out_after;
    }

pub returns-in-Unknown : goal.returns-in-Unknown
unfolding line_of
returns-in-Unknown c =
    record {
      upper_bound = search rules;
      out_after = rw c.in-Unknown.is c.put-in-Unknown.ensures.out_after;
    }
