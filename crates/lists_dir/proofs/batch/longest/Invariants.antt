use Rattle.std.proofs.Common.{◌≤◌, All, take, unwrap_or}
use Rattle.lists_dir.proofs.batch.longest.Given as goal

abbrev pub invariant-loop-reading : goal.invariant-loop-reading
invariant-loop-reading l = All (λ reading. unwrap_or reading.size 0 ≤ l.longest) (take l.reading-index l.readings)
