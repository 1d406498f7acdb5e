use Rattle.std.proofs.Common.{◌≡◌, List, drop, map, take}
use Rattle.std.specs.List.{filter}
use Rattle.acq_base.specs.declared.uri.ListName.{ListName}
use Rattle.acq_outside.specs.Disk.{Files}
use Rattle.lists_dir.specs.Summing.{has_file}
use Rattle.lists_dir.proofs.present.spread.Given as goal

abbrev pub invariant-loop-there : goal.invariant-loop-there
invariant-loop-there l = (files : Files) (names : List ListName) → l.flags ≡ map (has_file files) names → l.fn.sums.items ≡ map (λ name. files name.0) (filter (has_file files) names)
    → (l.all.items ≡ map (λ name. files name.0) (take l.there-index names)) × (l.sums.items ≡ map (λ name. files name.0) (filter (has_file files) (drop l.there-index names)))
