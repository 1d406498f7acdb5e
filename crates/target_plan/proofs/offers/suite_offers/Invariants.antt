use Rattle.std.proofs.Common.{◌≡◌, map, take}
use Rattle.std.specs.List.{flat_map}
use Rattle.target_plan.specs.Offers.{component_offers}
use Rattle.target_plan.specs.Seen.{seen_group, seen_mention}
use Rattle.target_plan.proofs.offers.suite_offers.Given as goal

abbrev pub invariant-loop-group : goal.invariant-loop-group
invariant-loop-group l = l.offers.items ≡ flat_map (component_offers l.settings) (map (seen_group seen_mention) (take l.group-index l.group-items))
