use Rattle.std.proofs.Common.{map, take}
use Rattle.std.specs.Cmp.Lexicographic.{slice_cmp}
use Rattle.std.specs.Ordering.{nat_cmp}
use Rattle.std.proofs.lemmas.Cmp.{nat_list_cmp_total}
use Rattle.target_plan.specs.Offers.{is_same_component}
use Rattle.target_plan.specs.Seen.{seen_mention, seen_group}
use Rattle.target_plan.proofs.Grouping.{AreGrouped}
use Rattle.target_plan.proofs.GroupLemmas.{component_of, same_component}
use Rattle.target_plan.proofs.groups.by_component.Given as goal

abbrev pub invariant-loop-mention : goal.invariant-loop-mention
invariant-loop-mention l = AreGrouped is_same_component (slice_cmp nat_cmp) nat_list_cmp_total component_of same_component l.places (map (seen_group seen_mention) l.groups.items) (map seen_mention (take l.mention-index l.mentions))
