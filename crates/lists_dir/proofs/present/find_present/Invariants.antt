use Rattle.std.proofs.Common.{◌≡◌, All, IsTrue, map, take}
use Rattle.std.specs.List.{filter}
use Rattle.acq_outside.specs.Disk.{IsName}
use Rattle.acq_outside.specs.Stays.{HasRead}
use Rattle.lists_dir.specs.Summing.{has_file}
use Rattle.lists_dir.proofs.present.find_present.Given as goal

abbrev pub invariant-loop-name : goal.invariant-loop-name
invariant-loop-name g l = record {
  frame : HasRead g.D.Disk l.fn.disk l.disk;
  named : All (λ name. IsName name.0) l.present;
  flags : IsTrue (g.D.Disk.tells l.fn.disk) → l.flags ≡ map (has_file (g.D.Disk.files l.fn.disk)) (take l.name-index l.names);
  present : IsTrue (g.D.Disk.tells l.fn.disk) → l.present ≡ filter (has_file (g.D.Disk.files l.fn.disk)) (take l.name-index l.names);
}
