use Rattle.std.proofs.Common.{◌≡◌, ◌+◌, ◌<◌, ◌≤◌, ℕ, length, get_or}
use Rattle.acq_base.specs.declared.uri.ListName.{ListName}
use Rattle.acq_outside.specs.Stays.{HasRead}
use Rattle.lists_dir.specs.Summing.{Pends, Stands}
use Rattle.lists_dir.specs.declared.summing.Reading.{Reading}
use Rattle.lists_dir.proofs.batch.read_step.Given as goal

abbrev pub invariant-loop-k : goal.invariant-loop-k
invariant-loop-k g l = record {
  frame : HasRead g.D.Disk l.fn.disk l.disk;
  len : length l.readings ≡ length l.names;
  pend : (i : ℕ) (n : ListName) (r : Reading) → i < l.k → Pends (g.D.Disk.tells l.fn.disk) (g.D.Disk.files l.fn.disk (get_or l.names i n).0) (l.at + l.step) (get_or l.readings i r);
  stand : (i : ℕ) (n : ListName) (r : Reading) → l.k ≤ i → i < length l.names → Stands (g.D.Disk.tells l.fn.disk) (g.D.Disk.files l.fn.disk (get_or l.names i n).0) l.at (get_or l.readings i r);
}
