use Rattle.std.proofs.Common.{◌≡◌, ◌-◌, ◌≤◌, [], length, take, IsTrue, unwrap_or}
use Rattle.acq_outside.specs.Stays.{HasRead}
use Rattle.hash_gate.specs.Pieces.{HasTaken}
use Rattle.lists_dir.proofs.verifying.fits.Given as goal

abbrev pub invariant-loop-at : goal.invariant-loop-at
invariant-loop-at g l = record {
  frame : HasRead g.D.Disk l.fn.disk l.disk;
  inside : l.at ≤ l.sum.size;
  told : IsTrue (g.D.Disk.tells l.fn.disk) → length (unwrap_or (g.D.Disk.files l.fn.disk l.name) []) ≡ l.sum.size
      → HasTaken l.gate l.sum (take l.at (unwrap_or (g.D.Disk.files l.fn.disk l.name) []));
}

abbrev pub decreases-loop-at : goal.decreases-loop-at
decreases-loop-at g l = l.sum.size - l.at
