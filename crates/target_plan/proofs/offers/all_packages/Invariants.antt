use Rattle.std.proofs.Common.{◌≡◌, ◌++◌, map, take}
use Rattle.target_plan.specs.Offers.{packages_of}
use Rattle.target_plan.specs.Seen.{seen_asked}
use Rattle.target_plan.proofs.offers.all_packages.Given as goal

abbrev pub invariant-loop-asked : goal.invariant-loop-asked
invariant-loop-asked l = l.offers.items ≡ l.fn.offers.items ++ map (λ a. packages_of l.component a.1 a.0) (map seen_asked (take l.asked-index l.asked-items))
