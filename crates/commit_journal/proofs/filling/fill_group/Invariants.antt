use Rattle.std.proofs.Common.{take}
use Rattle.acq_outside.specs.Stays.{HasStayed}
use Rattle.commit_journal.proofs.Fills.{WritesParts}
use Rattle.commit_journal.proofs.filling.fill_group.Given as goal

abbrev pub invariant-loop-change : goal.invariant-loop-change
invariant-loop-change g l = record {
  fills : WritesParts (take l.change-index l.changes) (g.D.Disk.trace l.fn.disk) (g.D.Disk.trace l.disk);
  frame : HasStayed g.D.Disk l.fn.disk l.disk;
}
