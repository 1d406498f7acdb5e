use Rattle.std.proofs.Common.{◌-◌}
use Rattle.acq_outside.specs.Stays.{HasStayed}
use Rattle.job_fetch.specs.Hearing.{at_of}
use Rattle.lane_jobs.proofs.OwnFetch.{IsOwn}
use Rattle.lane_jobs.proofs.own.fetch_own.Given as goal

abbrev pub invariant-loop-heard : goal.invariant-loop-heard
invariant-loop-heard g l = record {
  frame : HasStayed g.D.Disk l.fn.disk l.disk;
  so_far : IsOwn l.job l.fn.first l.fn.lanes l.lanes (g.D.Disk.trace l.fn.disk) (g.D.Disk.trace l.disk) l.intake l.word;
}

abbrev pub decreases-loop-heard : goal.decreases-loop-heard
decreases-loop-heard g l = l.job.max - at_of l.job l.intake
