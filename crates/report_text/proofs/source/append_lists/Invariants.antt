use Rattle.std.proofs.Common.{◌≡◌, ◌++◌, length}
use Rattle.std.specs.List.{flat_map}
use Rattle.report_text.specs.Sources.{list_line}
use Rattle.report_text.proofs.source.append_lists.Given as goal

abbrev pub invariant-loop-list : goal.invariant-loop-list
invariant-loop-list l = l.text ++ flat_map list_line l.rest ≡ l.fn.text ++ flat_map list_line l.lists

abbrev pub decreases-loop-list : goal.decreases-loop-list
decreases-loop-list l = length l.rest
