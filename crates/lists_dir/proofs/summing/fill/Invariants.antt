use Rattle.std.proofs.Common.{◌≡◌, ◌-◌, ◌≤◌, [], length, take, drop, IsTrue, unwrap_or}
use Rattle.acq_outside.specs.Stays.{HasRead}
use Rattle.lists_dir.proofs.summing.fill.Given as goal

abbrev pub invariant-loop-filled : goal.invariant-loop-filled
invariant-loop-filled g l = record {
  frame : HasRead g.D.Disk l.fn.disk l.disk;
  len : length l.room ≡ length l.fn.room;
  filled : l.filled ≤ length l.fn.room;
  told : IsTrue (g.D.Disk.tells l.fn.disk) → take l.filled l.room ≡ take l.filled (drop l.at (unwrap_or (g.D.Disk.files l.fn.disk l.name) []));
}

abbrev pub decreases-loop-filled : goal.decreases-loop-filled
decreases-loop-filled g l = length l.fn.room - l.filled
