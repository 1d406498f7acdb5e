use Rattle.std.proofs.Common.{take}
use Rattle.std.specs.Cmp.Lexicographic.{slice_cmp}
use Rattle.std.specs.Ordering.{nat_cmp}
use Rattle.std.proofs.lemmas.Cmp.{nat_list_cmp_total}
use Rattle.target_plan.specs.Drafts.{is_same_name, name_of}
use Rattle.target_plan.proofs.Grouping.{AreFirst}
use Rattle.target_plan.proofs.GroupLemmas.{same_name}
use Rattle.target_plan.proofs.draft.first_of_each.Given as goal

abbrev pub invariant-loop-planned : goal.invariant-loop-planned
invariant-loop-planned l = AreFirst is_same_name (slice_cmp nat_cmp) nat_list_cmp_total name_of same_name l.places l.firsts (take l.planned-index l.lists)
