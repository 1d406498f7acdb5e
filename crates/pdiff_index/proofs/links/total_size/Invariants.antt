use Rattle.std.proofs.Common.{◌≡◌, ◌*◌, ◌^◌, ◌≤◌, take}
use Rattle.std.specs.List.{sum_by}
use Rattle.pdiff_index.proofs.links.total_size.Given as goal

abbrev pub invariant-loop-patch : goal.invariant-loop-patch
invariant-loop-patch l = (l.total ≡ sum_by (λ patch. patch.sum.size) (take l.patch-index l.patches)) × (l.total ≤ l.patch-index * 2 ^ 64)
