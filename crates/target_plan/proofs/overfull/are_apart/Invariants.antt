use Rattle.std.proofs.Common.{◌≡◌, map, take}
use Rattle.target_plan.specs.Marks.{digest_of}
use Rattle.target_plan.proofs.overfull.are_apart.Given as goal

abbrev pub invariant-loop-component : goal.invariant-loop-component
invariant-loop-component l = l.digests.items ≡ map digest_of (take l.component-index l.components)
