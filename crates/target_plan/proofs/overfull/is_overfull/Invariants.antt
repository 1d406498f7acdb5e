use Rattle.std.proofs.Common.{map, take, []}
use Rattle.std.specs.List.{flat_map}
use Rattle.target_plan.specs.Marks.{AreMarked, alone, names_of}
use Rattle.target_plan.proofs.overfull.is_overfull.Given as goal

abbrev pub invariant-loop-entry : goal.invariant-loop-entry
invariant-loop-entry g l = AreMarked (flat_map (names_of l.picker.pick l.settings) (map alone (take l.entry-index l.entries))) [] l.digests.items
