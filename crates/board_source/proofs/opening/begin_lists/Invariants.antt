use Rattle.std.proofs.Common.{◌≡◌, length}
use Rattle.std.specs.BTreeMap.{get}
use Rattle.std.specs.Cmp.Lexicographic.{slice_cmp}
use Rattle.std.specs.List.{AllWithin}
use Rattle.std.specs.Ordering.{nat_cmp}
use Rattle.acq_outside.specs.Stays.{HasRead}
use Rattle.board_model.specs.Keys.{named}
use Rattle.board_source.specs.Listed.{standings}
use Rattle.board_source.specs.Refinement.{config_of}
use Rattle.board_source.proofs.Beside.{AreSoFar}
use Rattle.board_source.proofs.opening.begin_lists.Given as goal

-- what is installed under the names of the targets that are left is in the map
abbrev pub invariant-loop-target : goal.invariant-loop-target
invariant-loop-target g l = record {
  frame : HasRead g.D.Disk l.fn.disk l.disk;
  begun : AreSoFar (g.D.Disk.tells l.fn.disk) (g.D.Disk.files l.fn.disk) (config_of l.setup) l.source l.found.release (named l.fn.old.lists) l.initial.there l.target-index (standings l.items.items) l.there;
  left : AllWithin (λ target. get (slice_cmp nat_cmp) l.installed target.name.0 ≡ named l.fn.old.lists target.name.0) l.source.targets l.target-index (length l.source.targets);
}
