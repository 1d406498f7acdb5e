use Rattle.std.proofs.Common.{◌≡◌, ◌<◌, ℕ, length, get_or}
use Rattle.acq_base.specs.declared.uri.ListName.{ListName}
use Rattle.acq_outside.specs.Stays.{HasRead}
use Rattle.lists_dir.specs.Summing.{Stands}
use Rattle.lists_dir.specs.declared.summing.Reading.{Reading}
use Rattle.lists_dir.proofs.batch.open_all.Given as goal

abbrev pub invariant-loop-name : goal.invariant-loop-name
invariant-loop-name g l = record {
  frame : HasRead g.D.Disk l.fn.disk l.disk;
  len : length l.readings ≡ l.name-index;
  stand : (i : ℕ) (n : ListName) (r : Reading) → i < l.name-index → Stands (g.D.Disk.tells l.fn.disk) (g.D.Disk.files l.fn.disk (get_or l.names i n).0) 0 (get_or l.readings i r);
}
