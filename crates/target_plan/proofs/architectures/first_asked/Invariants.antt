use Rattle.std.proofs.Common.{map, take}
use Rattle.std.specs.Cmp.Lexicographic.{slice_cmp}
use Rattle.std.specs.Ordering.{nat_cmp}
use Rattle.std.proofs.lemmas.Cmp.{nat_list_cmp_total}
use Rattle.target_plan.specs.Offers.{is_same_arch}
use Rattle.target_plan.specs.Seen.{seen_asked}
use Rattle.target_plan.proofs.Grouping.{AreFirst}
use Rattle.target_plan.proofs.GroupLemmas.{arch_of, same_arch}
use Rattle.target_plan.proofs.architectures.first_asked.Given as goal

abbrev pub invariant-loop-item : goal.invariant-loop-item
invariant-loop-item l = AreFirst is_same_arch (slice_cmp nat_cmp) nat_list_cmp_total arch_of same_arch l.places (map seen_asked l.firsts.items) (map seen_asked (take l.item-index l.asked))
