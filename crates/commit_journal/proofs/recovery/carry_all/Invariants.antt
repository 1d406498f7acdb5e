use Rattle.std.proofs.Common.{◌≡◌, take, IsTrue}
use Rattle.journal_model.specs.Steps.{after_steps}
use Rattle.acq_outside.specs.Stays.{HasStayed}
use Rattle.acq_outside.specs.States.{IsNow, Since, From}
use Rattle.commit_journal.specs.Opening.{Recovers}
use Rattle.commit_journal.specs.Opening.{KeepsFilesBut}
use Rattle.commit_journal.specs.Phases.{IsCarrying, IsOfCommit}
use Rattle.commit_journal.proofs.recovery.carry_all.Given as goal

abbrev pub invariant-loop-step : goal.invariant-loop-step
invariant-loop-step g l = record {
  moments : Since (g.D.Disk.trace l.fn.disk) (g.D.Disk.trace l.disk) (From Recovers (g.D.Disk.trace l.fn.disk));
  others : KeepsFilesBut (IsOfCommit l.steps) (g.D.Disk.trace l.fn.disk) (g.D.Disk.trace l.disk);
  done : IsNow (IsCarrying l.steps (take l.step-index l.steps)) (g.D.Disk.trace l.disk);
  frame : HasStayed g.D.Disk l.fn.disk l.disk;
  told : IsTrue (g.D.Disk.tells l.fn.disk) → g.D.Disk.files l.disk ≡ after_steps (g.D.Disk.files l.fn.disk) (take l.step-index l.steps);
}
