use Rattle.std.proofs.Common.{arith}
use Rattle.acq_outside.specs.Crash.{all_renamed}
use Rattle.acq_memory.specs.Replay.{names_in, nowhere}
use Rattle.acq_memory.proofs.Replaying.{one_change}
use Rattle.acq_memory.proofs.image.base_names.Goals as goal

pub loop-change-preserved : goal.loop-change-preserved
loop-change-preserved c =
    one_change (names_in c.loop-change.names) (names_in c.rename_one.new.names) (all_renamed nowhere c.args.settled.now) c.args.settled.now c.loop-change.change-index c.change-item.result
    (omega arith) c.change-item.is c.in_ok-rename_one.ensures c.loop-change.invariant
