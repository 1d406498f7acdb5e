use Rattle.std.proofs.Common.{◌≡◌, ◌≤◌, length, drop}
use Rattle.acq_outside.specs.History.{start_files}
use Rattle.acq_memory.specs.Held.{files_in}
use Rattle.acq_memory.proofs.held.held_files.Given as goal

-- the rows from the place on are held
abbrev pub invariant-loop-at : goal.invariant-loop-at
invariant-loop-at l =
    record {
      within : l.at ≤ length l.rows;
      held : files_in l.held ≡ start_files (drop l.at l.rows);
    }

abbrev pub decreases-loop-at : goal.decreases-loop-at
decreases-loop-at l = l.at
