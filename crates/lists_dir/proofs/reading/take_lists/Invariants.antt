use Rattle.std.proofs.Common.{◌≡◌, ◌++◌, ℕ, List, Option, drop, map, take}
use Rattle.acq_outside.specs.Disk.{Files}
use Rattle.lists_dir.specs.Installed.{lists_of}
use Rattle.lists_dir.proofs.reading.take_lists.Given as goal

abbrev pub invariant-loop-target : goal.invariant-loop-target
invariant-loop-target l = (files : Files) (rest : List (Option (List ℕ))) → l.fn.sums.items ≡ map (λ target. files target.name.0) l.targets ++ rest
    → (l.lists ≡ lists_of files (take l.target-index l.targets)) × (l.sums.items ≡ map (λ target. files target.name.0) (drop l.target-index l.targets) ++ rest)
