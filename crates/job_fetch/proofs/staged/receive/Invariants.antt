use Rattle.std.proofs.Common.{◌≡◌, ◌⊎◌, ◌-◌, ◌<◌, Some}
use Rattle.acq_outside.specs.Stays.{HasStayed}
use Rattle.journal_model.specs.Rest.{part_bytes}
use Rattle.job_fetch.specs.Fetched.{KeepsFront, Staging}
use Rattle.job_fetch.specs.Hearing.{at_of, name_of}
use Rattle.job_fetch.proofs.Words.{IsComing}
use Rattle.job_fetch.proofs.staged.receive.Given as goal

abbrev pub invariant-loop-heard : goal.invariant-loop-heard
invariant-loop-heard g l = record {
  frame : HasStayed g.D.Disk l.fn.disk l.disk;
  begins : g.M.Method.begins l.method ≡ g.M.Method.begins l.fn.method;
  into : name_of l.intake ≡ Some l.name.0;
  coming : IsComing g.M.Method l.job (part_bytes (g.D.Disk.trace l.fn.disk) l.name.0) l.fn.method l.method (g.D.Disk.trace l.disk) l.intake l.word;
  staging : Staging l.name.0 (g.D.Disk.trace l.fn.disk) (g.D.Disk.trace l.disk);
  front : KeepsFront l.name.0 l.job.from (g.D.Disk.trace l.fn.disk) (g.D.Disk.trace l.disk);
  fresh : (g.D.Disk.trace l.disk ≡ g.D.Disk.trace l.fn.disk) ⊎ (l.job.from < at_of l.job l.intake);
}

abbrev pub decreases-loop-heard : goal.decreases-loop-heard
decreases-loop-heard g l = l.job.max - at_of l.job l.intake
