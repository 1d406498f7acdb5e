use Rattle.std.proofs.Common.{◌≡◌, drop}
use Rattle.acq_outside.specs.Crash.{all_renamed}
use Rattle.acq_memory.specs.Replay.{names_in, nowhere}
use Rattle.acq_memory.proofs.image.base_names.Given as goal

-- the changes that are left lead to the same names
abbrev pub invariant-loop-change : goal.invariant-loop-change
invariant-loop-change l = all_renamed (names_in l.names) (drop l.change-index l.settled) ≡ all_renamed nowhere l.settled
