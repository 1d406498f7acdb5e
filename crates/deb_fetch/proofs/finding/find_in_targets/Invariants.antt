use Rattle.std.proofs.Common.{◌≡◌, take, IsTrue}
use Rattle.acq_outside.specs.Stays.{HasRead}
use Rattle.deb_fetch.specs.Founds.{IsSoundFound, found_of}
use Rattle.deb_fetch.specs.Stanzas.{targets_stanzas}
use Rattle.deb_fetch.proofs.finding.find_in_targets.Given as goal

abbrev pub invariant-loop-target : goal.invariant-loop-target
invariant-loop-target g l = record {
  frame : HasRead g.D.Disk l.fn.disk l.disk;
  told : IsTrue (g.D.Disk.tells l.fn.disk) → l.found ≡ found_of (targets_stanzas (g.D.Disk.files l.fn.disk) l.name l.version l.base (take l.target-index l.targets));
  sound : IsSoundFound l.found;
}
