use Rattle.std.proofs.Common.{◌≡◌, ◌++◌, map, take}
use Rattle.acq_outside.specs.States.{IsTold}
use Rattle.acq_outside.specs.Stays.{HasRead}
use Rattle.update_engine.specs.Reading.{size_of}
use Rattle.update_engine.proofs.reading.read_targets.Given as goal

abbrev pub invariant-loop-target : goal.invariant-loop-target
invariant-loop-target g l = record {
  frame : HasRead g.D.Disk l.fn.disk l.disk;
  told : IsTold (g.D.Disk.trace l.fn.disk) → l.sizes ≡ l.fn.sizes ++ map (size_of (g.D.Disk.trace l.fn.disk)) (take l.target-index l.targets);
}
