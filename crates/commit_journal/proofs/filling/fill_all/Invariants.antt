use Rattle.std.proofs.Common.{take}
use Rattle.commit_journal.specs.Changes.{all_changes}
use Rattle.acq_outside.specs.Stays.{HasStayed}
use Rattle.commit_journal.proofs.Fills.{WritesParts}
use Rattle.commit_journal.proofs.filling.fill_all.Given as goal

abbrev pub invariant-loop-group : goal.invariant-loop-group
invariant-loop-group g l = record {
  fills : WritesParts (all_changes (take l.group-index l.groups)) (g.D.Disk.trace l.fn.disk) (g.D.Disk.trace l.disk);
  frame : HasStayed g.D.Disk l.fn.disk l.disk;
}
