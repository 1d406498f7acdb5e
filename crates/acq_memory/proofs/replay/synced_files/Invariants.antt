use Rattle.std.proofs.Common.{◌≡◌, ◌++◌, drop}
use Rattle.acq_outside.specs.Crash.{synced_rows}
use Rattle.acq_memory.proofs.replay.synced_files.Given as goal

abbrev pub invariant-loop-row : goal.invariant-loop-row
invariant-loop-row l = synced_rows l.rows ≡ l.files.items ++ synced_rows (drop l.row-index l.rows)
