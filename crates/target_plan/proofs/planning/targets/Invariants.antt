use Rattle.std.proofs.Common.{◌≡◌, map, take}
use Rattle.target_plan.specs.Drafts.{target_in}
use Rattle.target_plan.proofs.planning.targets.Given as goal

abbrev pub invariant-loop-planned : goal.invariant-loop-planned
invariant-loop-planned l = l.targets ≡ map target_in (take l.planned-index l.lists)
