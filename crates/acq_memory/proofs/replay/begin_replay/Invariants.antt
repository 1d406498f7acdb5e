use Rattle.std.proofs.Common.{◌≡◌, ◌≤◌, length, drop}
use Rattle.acq_outside.specs.Crash.{all_renamed, number_of}
use Rattle.acq_memory.specs.Replay.{names_in}
use Rattle.acq_memory.specs.Replay.{nowhere}
use Rattle.acq_memory.proofs.replay.begin_replay.Given as goal

-- the rows from the place on have their names
abbrev pub invariant-loop-at : goal.invariant-loop-at
invariant-loop-at l =
    record {
      within : l.at ≤ length l.rows;
      names : names_in l.names ≡ number_of l.at (drop l.at l.rows);
      settled : all_renamed nowhere l.settled.items ≡ names_in l.names;
    }

abbrev pub decreases-loop-at : goal.decreases-loop-at
decreases-loop-at l = l.at
