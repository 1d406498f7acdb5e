use Rattle.std.proofs.Common.{◌≡◌, map, take}
use Rattle.std.specs.List.{All}
use Rattle.target_plan.specs.Marks.{IsPlain, escaped, path_of}
use Rattle.target_plan.proofs.overfull.tails.Given as goal

abbrev pub invariant-loop-planned : goal.invariant-loop-planned
invariant-loop-planned g l = record {
  are : l.tails.items ≡ map escaped (map path_of (take l.planned-index l.planned-items));
  plain : All IsPlain (map path_of (take l.planned-index l.planned-items));
}
