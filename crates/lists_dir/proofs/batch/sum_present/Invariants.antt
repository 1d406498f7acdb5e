use Rattle.std.proofs.Common.{◌≡◌, ◌++◌, All, IsTrue, length, map}
use Rattle.acq_outside.specs.Disk.{IsName}
use Rattle.acq_outside.specs.Stays.{HasRead}
use Rattle.lists_dir.proofs.batch.sum_present.Given as goal

abbrev pub invariant-loop-rest : goal.invariant-loop-rest
invariant-loop-rest g l = record {
  frame : HasRead g.D.Disk l.fn.disk l.disk;
  names : All (λ name. IsName name.0) l.rest;
  told : IsTrue (g.D.Disk.tells l.fn.disk)
      → l.sums.items ++ map (λ name. g.D.Disk.files l.fn.disk name.0) l.rest ≡ map (λ name. g.D.Disk.files l.fn.disk name.0) l.fn.names;
}

abbrev pub decreases-loop-rest : goal.decreases-loop-rest
decreases-loop-rest g l = length l.rest
