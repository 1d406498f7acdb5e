use Rattle.std.proofs.Common.{◌≡◌, ◌++◌, map, take}
use Rattle.std.specs.List.{flat_map}
use Rattle.target_plan.specs.Offers.{exact_packages, exact_sources}
use Rattle.target_plan.specs.Seen.{seen_entry}
use Rattle.target_plan.proofs.offers.exact_offers.Given as goal

abbrev pub invariant-loop-entry : goal.invariant-loop-entry
invariant-loop-entry l = l.offers.items ≡ flat_map (exact_packages l.settings) (map seen_entry (take l.entry-index l.entries))

abbrev pub invariant-loop-entry-2 : goal.invariant-loop-entry-2
invariant-loop-entry-2 l = l.offers.items ≡ flat_map (exact_packages l.settings) (map seen_entry l.entries) ++ flat_map exact_sources (map seen_entry (take l.entry-index l.entries))
