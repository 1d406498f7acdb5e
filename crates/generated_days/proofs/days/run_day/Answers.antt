use Rattle.std.proofs.Common.{w64}
use Rattle.std.proofs.lemmas.Int.{to_z-of_z}
use Rattle.acq_outside.specs.Crash.{trace_of}
use Rattle.acq_memory.specs.MemDisk.{past_of}
use Rattle.journal_model.specs.Reopen.{installed_now}
use Rattle.generated_days.proofs.Both.{day-of}
use Rattle.generated_days.proofs.Rest.{settled-at}
use Rattle.generated_days.proofs.days.run_day.Goals as goal

pub returns-clause-day : goal.returns-clause-day
returns-clause-day g c =
    rw c.bytes_of.ensures.still
    (day-of _ _ _ _ _ _ _ _ (rw (c.check_clear.ensures.still, to_z-of_z w64 c.args.now c.ranges.now) at c.in_ok-log.ensures.day) c.count_installed-installed.ensures c.count_asks-asks.ensures c.in_ok-bytes.ensures.bytes)

pub returns-clause-synced : goal.returns-clause-synced
returns-clause-synced g c =
    rw c.bytes_of.ensures.still (settled-at (installed_now (trace_of (past_of c.run_over.new.disk))) (trace_of (past_of c.run_over.new.disk)) c.in_ok-log.ensures.rests)

pub run_over-requires-clause-synced : goal.run_over-requires-clause-synced
run_over-requires-clause-synced g c κs within = rw c.check_clear.ensures.still c.requires.synced

pub run_over-requires-clause-clear : goal.run_over-requires-clause-clear
run_over-requires-clause-clear g c κs within = rw c.check_clear.ensures.still c.in_ok-check_clear.ensures.clear
