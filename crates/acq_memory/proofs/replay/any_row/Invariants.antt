use Rattle.std.proofs.Common.{◌≡◌, ◌++◌, drop}
use Rattle.acq_outside.specs.Crash.{all_any}
use Rattle.acq_memory.proofs.replay.any_row.Given as goal

abbrev pub invariant-loop-byte : goal.invariant-loop-byte
invariant-loop-byte l = all_any l.bytes ≡ l.new ++ all_any (drop l.byte-index l.bytes)
