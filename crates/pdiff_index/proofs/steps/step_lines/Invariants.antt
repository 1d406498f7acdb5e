use Rattle.std.specs.BTreeMap.{get}
use Rattle.std.specs.Cmp.Lexicographic.{slice_cmp}
use Rattle.std.specs.Ordering.{nat_cmp}
use Rattle.pdiff_index.proofs.StepLemmas.{IsReadTo}
use Rattle.pdiff_index.proofs.steps.step_lines.Given as goal

abbrev pub invariant-loop-line : goal.invariant-loop-line
invariant-loop-line l = IsReadTo l.once l.fn.at l.lines l.line-index l.at l.steps (get (slice_cmp nat_cmp) l.sums)
