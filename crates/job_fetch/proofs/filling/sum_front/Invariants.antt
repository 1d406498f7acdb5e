use Rattle.std.proofs.Common.{◌≡◌, ◌-◌, ◌≤◌, length, take}
use Rattle.acq_outside.specs.Stays.{HasStayed}
use Rattle.acq_outside.specs.States.{IsTold}
use Rattle.hash_gate.specs.Pieces.{HasSummed, size_so_far}
use Rattle.journal_model.specs.Rest.{part_bytes}
use Rattle.job_fetch.proofs.filling.sum_front.Given as goal

abbrev pub invariant-loop-at : goal.invariant-loop-at
invariant-loop-at g l = record {
  frame : HasStayed g.D.Disk l.fn.disk l.disk;
  still : g.D.Disk.trace l.disk ≡ g.D.Disk.trace l.fn.disk;
  inside : l.at ≤ l.keep;
  size : size_so_far l.total ≡ l.at;
  summed : IsTold (g.D.Disk.trace l.fn.disk) → length (part_bytes (g.D.Disk.trace l.fn.disk) l.name.0) ≡ l.keep
      → HasSummed l.total (take l.at (part_bytes (g.D.Disk.trace l.fn.disk) l.name.0));
}

abbrev pub decreases-loop-at : goal.decreases-loop-at
decreases-loop-at g l = l.keep - l.at
