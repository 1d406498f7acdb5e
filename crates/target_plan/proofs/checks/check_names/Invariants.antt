use Rattle.std.proofs.Common.{◌≡◌, map, drop}
use Rattle.target_plan.specs.Drafts.{file_of}
use Rattle.target_plan.specs.Planning.{long_name}
use Rattle.target_plan.proofs.checks.check_names.Given as goal

abbrev pub invariant-loop-planned : goal.invariant-loop-planned
invariant-loop-planned l = long_name (map file_of (drop l.planned-index l.lists)) ≡ long_name (map file_of l.lists)
