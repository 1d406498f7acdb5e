use Rattle.std.proofs.Common.{◌≡◌, IsTrue, drop, length, map, take}
use Rattle.std.specs.List.{flat_map}
use Rattle.acq_outside.specs.Stays.{HasRead}
use Rattle.lists_dir.specs.Installed.{installed_of, target_names}
use Rattle.lists_dir.specs.Refinement.{old_in}
use Rattle.lists_dir.proofs.reading.deal_out.Given as goal

abbrev pub invariant-loop-source : goal.invariant-loop-source
invariant-loop-source g l = record {
  frame : HasRead g.D.Disk l.fn.disk l.disk;
  len : length l.olds ≡ l.source-index;
  told : IsTrue (g.D.Disk.tells l.fn.disk) → l.fn.sums.items ≡ map (λ name. g.D.Disk.files l.fn.disk name.0) (flat_map target_names l.sources)
      → (map old_in l.olds ≡ map (installed_of (g.D.Disk.files l.fn.disk)) (take l.source-index l.sources))
      × (l.sums.items ≡ map (λ name. g.D.Disk.files l.fn.disk name.0) (flat_map target_names (drop l.source-index l.sources)));
}
