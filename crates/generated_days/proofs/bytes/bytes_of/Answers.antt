use Rattle.std.proofs.Common.{refl}
use Rattle.acq_outside.specs.Crash.{trace_of}
use Rattle.acq_outside.specs.History.{files_of}
use Rattle.acq_memory.specs.MemDisk.{past_of}
use Rattle.acq_outside.proofs.Traces.{trace_shown}
use Rattle.generated_days.proofs.Folders.{has-bytes}
use Rattle.generated_days.proofs.bytes.bytes_of.Goals as goal
use Rattle.run_model.proofs.Theorems.{opened_lists_are_alone}

pub returns-clause-bytes : goal.returns-clause-bytes
returns-clause-bytes c =
    has-bytes (files_of (past_of c.args.disk.now)) (trace_of (past_of c.args.disk.now)) (trace_shown (past_of c.args.disk.now)) c.requires (opened_lists_are_alone (trace_of (past_of c.args.disk.now)))
    _ _ (c.in-Ok.ensures.told refl) (rw (c.names.ensures.past, c.as_slice.ensures) at c.in_ok-bytes.ensures.sum)
