use Rattle.std.proofs.Common.{◌≡◌, ◌++◌, drop}
use Rattle.std.specs.Prelude.{filter_map}
use Rattle.std.specs.BTreeMap.{get}
use Rattle.std.specs.Cmp.Lexicographic.{slice_cmp}
use Rattle.std.specs.Ordering.{nat_cmp}
use Rattle.board_slot.specs.Ended.{held_list}
use Rattle.board_slot.proofs.held.held_lists.Given as goal

-- the lists so far, and those of the other targets
abbrev pub invariant-loop-target : goal.invariant-loop-target
invariant-loop-target l =
    l.lists ++ filter_map (held_list (get (slice_cmp nat_cmp) l.sums)) (drop l.target-index l.targets) ≡ filter_map (held_list (get (slice_cmp nat_cmp) l.sums)) l.targets
