use Rattle.std.proofs.Common.{◌≡◌, ◌++◌, drop}
use Rattle.acq_outside.specs.Crash.{all_kept}
use Rattle.acq_memory.proofs.replay.kept.Given as goal

abbrev pub invariant-loop-byte : goal.invariant-loop-byte
invariant-loop-byte l = all_kept l.bytes ≡ l.new ++ all_kept (drop l.byte-index l.bytes)
