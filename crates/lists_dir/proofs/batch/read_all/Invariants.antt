use Rattle.std.proofs.Common.{◌≡◌, ◌-◌, ◌≤◌, length}
use Rattle.acq_outside.specs.Stays.{HasRead}
use Rattle.lists_dir.specs.Summing.{AllStand}
use Rattle.lists_dir.proofs.batch.read_all.Given as goal

abbrev pub invariant-loop-at : goal.invariant-loop-at
invariant-loop-at g l = record {
  frame : HasRead g.D.Disk l.fn.disk l.disk;
  len : length l.readings ≡ length l.names;
  inside : l.at ≤ l.longest;
  stand : AllStand (g.D.Disk.tells l.fn.disk) (g.D.Disk.files l.fn.disk) l.at l.names l.readings;
}

abbrev pub decreases-loop-at : goal.decreases-loop-at
decreases-loop-at g l = l.longest - l.at
