use Rattle.std.proofs.Common.{◌≡◌, ◌++◌, map, take}
use Rattle.lists_dir.proofs.reading.add_names.Given as goal

abbrev pub invariant-loop-target : goal.invariant-loop-target
invariant-loop-target l = l.names ≡ l.fn.names ++ map (λ target. target.name) (take l.target-index l.targets)
