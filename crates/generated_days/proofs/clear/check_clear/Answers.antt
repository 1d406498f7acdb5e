use Rattle.std.proofs.Common.{◌∙◌, refl, sym}
use Rattle.acq_outside.specs.History.{files_of}
use Rattle.acq_memory.specs.MemDisk.{past_of}
use Rattle.generated_days.proofs.Clearing.{is-clear}
use Rattle.generated_days.proofs.clear.check_clear.Goals as goal

pub returns-clause-clear : goal.returns-clause-clear
returns-clause-clear c =
    is-clear (files_of (past_of c.args.disk.now)) c.in-Ok.names (c.in-Ok.ensures.told refl) (rw c.as_slice.ensures at (sym c.has_partial.ensures ∙ c.if-has_partial.false))
    (rw c.names.ensures.past at c.in_ok-check_shut.ensures.shut)
