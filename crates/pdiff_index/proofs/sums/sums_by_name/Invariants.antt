use Rattle.std.proofs.Common.{◌≡◌, ℕ, List, take}
use Rattle.std.specs.BTreeMap.{get}
use Rattle.std.specs.Cmp.Lexicographic.{slice_cmp}
use Rattle.std.specs.Ordering.{nat_cmp}
use Rattle.pdiff_index.specs.Chain.{sum_named}
use Rattle.pdiff_index.proofs.sums.sums_by_name.Given as goal

abbrev pub invariant-loop-step : goal.invariant-loop-step
invariant-loop-step l = (name : List ℕ) → get (slice_cmp nat_cmp) l.sums name ≡ sum_named (take l.step-index l.steps) name
