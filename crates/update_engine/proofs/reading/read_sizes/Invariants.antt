use Rattle.std.proofs.Common.{◌≡◌, take}
use Rattle.acq_outside.specs.States.{IsTold}
use Rattle.acq_outside.specs.Stays.{HasRead}
use Rattle.update_engine.specs.Reading.{sizes_of}
use Rattle.update_engine.proofs.reading.read_sizes.Given as goal

abbrev pub invariant-loop-source : goal.invariant-loop-source
invariant-loop-source g l = record {
  frame : HasRead g.D.Disk l.fn.disk l.disk;
  told : IsTold (g.D.Disk.trace l.fn.disk) → l.sizes ≡ sizes_of (g.D.Disk.trace l.fn.disk) (take l.source-index l.sources);
}
