use Rattle.std.proofs.Common.{w64}
use Rattle.std.proofs.lemmas.Int.{to_z-of_z}
use Rattle.acq_outside.specs.History.{files_of}
use Rattle.acq_outside.specs.Crash.{trace_of}
use Rattle.acq_memory.specs.MemDisk.{past_of}
use Rattle.acq_outside.proofs.Traces.{trace_shown, trace_sound}
use Rattle.generated_days.proofs.Running.{is-told, running}
use Rattle.generated_days.proofs.run.run_over.Goals as goal

pub returns-clause-day : goal.returns-clause-day
returns-clause-day g c =
    (running c.logs_tell_days.ensures _ _ _ _ _ _ _ _ c.in_ok-methods.ensures.items c.new-method.ensures.world (rw c.new-2.ensures at c.new-method.ensures.failing) (rw c.new-3.ensures at c.new-method.ensures.failing_more)
    c.run_update.ensures.methods (rw c.as_slice.ensures.value at c.in_ok-check_quiet.ensures) (rw (c.new-judge.ensures, to_z-of_z w64 c.args.now c.ranges.now) at c.in-Ok-run_update.ensures.run.log) c.in-Ok-run_update.ensures.run.verdicts c.requires.synced
    (files_of (past_of c.args.disk.now)) (trace_shown (past_of c.args.disk.now)) c.requires.clear
    (is-told (files_of (past_of c.run_update.new.disk)) (trace_of (past_of c.run_update.new.disk)) (trace_shown (past_of c.run_update.new.disk))) (trace_sound (past_of c.run_update.new.disk))).0

pub returns-clause-rests : goal.returns-clause-rests
returns-clause-rests g c =
    (running c.logs_tell_days.ensures _ _ _ _ _ _ _ _ c.in_ok-methods.ensures.items c.new-method.ensures.world (rw c.new-2.ensures at c.new-method.ensures.failing) (rw c.new-3.ensures at c.new-method.ensures.failing_more)
    c.run_update.ensures.methods (rw c.as_slice.ensures.value at c.in_ok-check_quiet.ensures) (rw (c.new-judge.ensures, to_z-of_z w64 c.args.now c.ranges.now) at c.in-Ok-run_update.ensures.run.log) c.in-Ok-run_update.ensures.run.verdicts c.requires.synced
    (files_of (past_of c.args.disk.now)) (trace_shown (past_of c.args.disk.now)) c.requires.clear
    (is-told (files_of (past_of c.run_update.new.disk)) (trace_of (past_of c.run_update.new.disk)) (trace_shown (past_of c.run_update.new.disk))) (trace_sound (past_of c.run_update.new.disk))).1
