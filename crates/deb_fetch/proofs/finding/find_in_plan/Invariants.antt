use Rattle.std.proofs.Common.{◌≡◌, take, IsTrue}
use Rattle.acq_outside.specs.Stays.{HasRead}
use Rattle.deb_fetch.specs.Founds.{IsSoundFound, found_of}
use Rattle.deb_fetch.specs.Stanzas.{sources_stanzas}
use Rattle.deb_fetch.proofs.finding.find_in_plan.Given as goal

abbrev pub invariant-loop-source : goal.invariant-loop-source
invariant-loop-source g l = record {
  frame : HasRead g.D.Disk l.fn.disk l.disk;
  told : IsTrue (g.D.Disk.tells l.fn.disk) → l.found ≡ found_of (sources_stanzas (g.D.Disk.files l.fn.disk) l.name l.version (take l.source-index l.sources));
  sound : IsSoundFound l.found;
}
